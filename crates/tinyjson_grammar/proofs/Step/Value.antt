-- What comes of a complete value, and of a character after it.
use Rattle.std.specs.Prelude.{⊤}
use Rattle.std.proofs.Common.{◌≡◌, ℕ, ◌+◌, true, List, [], ◌∷◌, ◌++◌, Option, refl, ap, sym, ◌∙◌, append_assoc, append-nil, arith, subst}
use Rattle.std.proofs.Common.{IsTrue, not}
use Rattle.std.proofs.lemmas.Bool.{not-true, not-false, eqb-false}
use Rattle.tinyjson_grammar.specs.Machine.{strictly, Frame, Phase, run, step, complete, step_plain}
use Rattle.tinyjson_grammar.specs.Tree.{is_string, no_members, items_of}
use Rattle.tinyjson_grammar.specs.Tree as tree
use Rattle.tinyjson_grammar.specs.Characters.{is_white}
use Rattle.tinyjson_grammar.specs.Syntax.{Syntax, array, object, text, depth, IsWithin, tree_of}
use Rattle.tinyjson_grammar.specs.Prefix.{IsValue, Pair, Element, IsErrorFree}
use Rattle.tinyjson_grammar.specs.Refusal.{EndsBefore}
use Rattle.tinyjson_grammar.specs.Machine
use Rattle.tinyjson_grammar.proofs.Trace.Paths.{Path, outside, item_in, key_in, value_in, path_text, path_frames, level, IsPath, within_le}
use Rattle.tinyjson_grammar.proofs.Trace.Paths.{within_max, key_depth, items_with, pairs_with, text_of_items, text_of_pairs, depth_of_items}
use Rattle.tinyjson_grammar.proofs.Trace.Paths.{depth_of_pairs, items_trees, members_of_pairs, before_push, pairs_push, trees_push}
use Rattle.tinyjson_grammar.proofs.Trace.Paths.{members_push, deepest_push, pairs_deepest_push, AreElements_push, ArePairs_push}
use Rattle.tinyjson_grammar.proofs.Prefix.ErrorFree.{item_value, pair_value, error_free, error_free_from, placed}
use Rattle.tinyjson_grammar.proofs.Trace.State.{at_awaited, at_after, after_frames, after_phase, IsRead, are_white_append, after_read}
use Rattle.tinyjson_grammar.proofs.Prefix.Viable.{error_free_after, error_free_place}
use Rattle.tinyjson_grammar.proofs.Step.Statement.{NoQuoteFrom, Follows, either, at_code, key_says}
use Rattle.tinyjson_grammar.proofs.Accepts.Text.{no_text}
use Rattle.tinyjson_grammar.proofs.Accepts.Value.{string_key}

-- the value is complete, and the character was its last
pub complete_follows : (limit : Option ℕ) (p : Path) → IsPath limit p → (s : Syntax) → IsValue s → IsWithin limit (level p + depth s)
    → ((rest : List ℕ) → EndsBefore s rest) → (used : List ℕ) (fs : List Frame) (q : Phase) (c : ℕ)
    → used ++ c ∷ [] ≡ path_text p ++ text s → Follows limit used fs q c (complete true (path_frames p) (tree_of s) true)
complete_follows limit (outside w) hp s hs hd nn used fs q c e =
    after_read (at_after (outside w) s []) (hp, hs, tt, hd, tt) (e ∙ ap (λ xs. w ++ xs) (sym (append-nil (text s))))
complete_follows limit (item_in p es w) hp s hs hd nn used fs q c e = after_read (at_after (item_in p es w) s []) (hp, hs, tt, hd, tt)
    (e ∙ ap (λ xs. path_text (item_in p es w) ++ xs) (sym (append-nil (text s))))
complete_follows limit (value_in p ps a k b w) hp s hs hd nn used fs q c e =
    after_read (at_after (value_in p ps a k b w) s []) (hp, hs, tt, hd, tt)
    (e ∙ ap (λ xs. path_text (value_in p ps a k b w) ++ xs) (sym (append-nil (text s))))
complete_follows limit (key_in p ps w) hp s hs hd nn used fs q c e = either limit used fs q c (not (is_string (tree_of s))) _ _
    (λ h more d x. key_says limit p ps w hp s hs (sym (string_key s) ∙ not-true _ h) hd _ e more (nn more) x.unviable)
    (λ h. after_read (at_after (key_in p ps w) s []) (hp, hs, sym (string_key s) ∙ not-false _ h, hd, tt)
    (e ∙ ap (λ ys. path_text (key_in p ps w) ++ ys) (sym (append-nil (text s)))))

-- ---- after a value

pub more_white : (limit : Option ℕ) (p : Path) (s : Syntax) (v : List ℕ) → IsRead limit (at_after p s v) → (c : ℕ) → IsTrue (is_white c)
    → IsRead limit (at_after p s (v ++ c ∷ []))
more_white limit p s v h c hc = (h.0, h.1, h.2, h.3, are_white_append v (c ∷ []) h.4 (hc, tt))

pub longer : (a b v : List ℕ) (c : ℕ) → (a ++ (b ++ v)) ++ c ∷ [] ≡ a ++ (b ++ (v ++ c ∷ []))
longer a b v c = simp append_assoc

-- no quote follows a value in a container
abbrev pub IsInside : Path → Type 0
IsInside (outside w) = ⊥
IsInside (item_in p es w) = ⊤
IsInside (key_in p ps w) = ⊤
IsInside (value_in p ps a k b w) = ⊤

pub quote_after : (limit : Option ℕ) (p : Path) (s : Syntax) → IsInside p → NoQuoteFrom limit (after_frames p s) (after_phase p s)
unfolding run step
quote_after limit (outside w) s h ys t e = h
quote_after limit _ s h ys t e = no_text _ _ t e

-- the bracket, the brace or the colon may follow
pub closed_array : (limit : Option ℕ) (p : Path) (es : List Element) (w : List ℕ) (s : Syntax) (v : List ℕ)
    → IsRead limit (at_after (item_in p es w) s v) → IsErrorFree limit ((path_text (item_in p es w) ++ (text s ++ v)) ++ 93 ∷ [])
closed_array limit p es w s v h = error_free_from limit _ [] _ (simp (text_of_items, append_assoc, append-nil))
    (error_free limit p h.0.0 (array (items_with es w s v)) (item_value es w s v h.0.1 h.0.2 h.1 h.4)
    (within_max limit _ _ _ h.0.3 h.3 (rw (depth_of_items es w s v) (omega arith))) [] tt (placed p _))

pub closed_object : (limit : Option ℕ) (p : Path) (ps : List Pair) (a : List ℕ) (k : Syntax) (b w : List ℕ) (s : Syntax) (v : List ℕ)
    → IsRead limit (at_after (value_in p ps a k b w) s v)
    → IsErrorFree limit ((path_text (value_in p ps a k b w) ++ (text s ++ v)) ++ 125 ∷ [])
closed_object limit p ps a k b w s v h = error_free_from limit _ [] _ (simp (text_of_pairs, append_assoc, append-nil))
    (error_free limit p h.0.0 (object (pairs_with ps a k b w s v)) (pair_value ps a k b w s v h.0.1 h.0.2 h.0.4 h.0.3 h.0.5 h.0.6 h.1 h.4)
    (within_max limit _ _ _ h.0.7 h.3 (rw (depth_of_pairs ps a k b w s v) (rw (key_depth k h.0.4) (omega arith)))) [] tt (placed p _))

pub taken_key : (limit : Option ℕ) (p : Path) (ps : List Pair) (w : List ℕ) (s : Syntax) (v : List ℕ)
    → IsRead limit (at_after (key_in p ps w) s v) → IsErrorFree limit ((path_text (key_in p ps w) ++ (text s ++ v)) ++ 58 ∷ [])
taken_key limit p ps w s v h = error_free_from limit _ [] _ (simp (append_assoc, append-nil))
    (error_free_place limit (value_in p ps w s v []) (h.0.0, h.0.1, h.0.2, h.1, h.2, h.4, tt, h.0.3))

pub after_follows : (limit : Option ℕ) (p : Path) (s : Syntax) (v : List ℕ) → IsRead limit (at_after p s v) → (fs : List Frame) (q : Phase)
    → (IsInside p → NoQuoteFrom limit fs q) → (c : ℕ) →
    Follows limit (path_text p ++ (text s ++ v)) fs q c (step_plain (strictly limit) (after_frames p s) (after_phase p s) c)
after_follows limit (outside w) s v h fs q nq c = either limit _ _ _ c (is_white c) _ _
    (λ hc. after_read (at_after (outside w) s (v ++ c ∷ [])) (more_white limit (outside w) s v h c hc) (longer w (text s) v c))
    (λ hc more d x. (
      (
        hc,
        (
          w ++ (text s ++ v),
          refl,
          (
            tree_of s,
            record {
              loose = record {
                before = w;
                value = s;
                after = v;
                white_before = h.0;
                spelled = h.1.spelled;
                white_after = h.4;
                shallow = within_le limit _ _ h.3 (omega arith);
                whole = refl;
              };
              strict = h.1.strict;
              tree = refl;
            },
          ),
        ),
      ),
      ((w ++ (text s ++ v), refl, error_free_after limit (outside w) s v h), x.loosely refl),
    ))
after_follows limit (item_in p es w) s v h fs q nq c = either limit _ _ _ c (is_white c) _ _
    (λ hc. after_read (at_after (item_in p es w) s (v ++ c ∷ [])) (more_white limit (item_in p es w) s v h c hc)
    (longer (path_text (item_in p es w)) (text s) v c)) (λ hw. at_code limit _ _ _ c 44 _ _ (λ hc. record {
      read = at_awaited (item_in p (es ++ (record { before = w; value = s; after = v }) ∷ []) []);
      is = (
        h.0.0,
        AreElements_push es _ h.0.1 (record { before = h.0.2; value = h.1; after = h.4 }),
        tt,
        within_max limit _ _ _ h.0.3 h.3 (rw (deepest_push es (record { before = w; value = s; after = v })) (omega arith)),
      );
      whole = rw hc (simp (before_push, append_assoc, append-nil));
      frames = ap (λ ts. Machine.in_array ts ∷ path_frames p) (sym (trees_push es (record { before = w; value = s; after = v })));
      phase = refl;
    }) (λ hn. at_code limit _ _ _ c 93 _ _ (λ hc. subst (λ ts. Follows limit (path_text (item_in p es w) ++ (text s ++ v)) fs q c
    (complete true (path_frames p) (tree.array (items_of ts)) true)) (items_trees es w s v)
    (complete_follows limit p h.0.0 (array (items_with es w s v)) (item_value es w s v h.0.1 h.0.2 h.1 h.4)
    (within_max limit _ _ _ h.0.3 h.3 (rw (depth_of_items es w s v) (omega arith))) (λ rest. tt)
    (path_text (item_in p es w) ++ (text s ++ v)) _ _ c (rw hc (simp (text_of_items, append_assoc))))) (λ hm more d x. (
      ((path_text (item_in p es w) ++ (text s ++ v), refl), hw, (λ e. eqb-false c 44 hn e), (λ e. eqb-false c 93 hm e)),
      (
        record {
          place = record {
            prefix = path_text (item_in p es w) ++ (text s ++ v);
            ends = refl;
            error_free = error_free_after limit (item_in p es w) s v h;
            no_string = d.no_quote (nq tt);
          };
          without_error = closed_array limit p es w s v h;
        },
        x.loosely refl,
      ),
    ))))
after_follows limit (key_in p ps w) s v h fs q nq c = either limit _ _ _ c (is_white c) _ _
    (λ hc. after_read (at_after (key_in p ps w) s (v ++ c ∷ [])) (more_white limit (key_in p ps w) s v h c hc)
    (longer (path_text (key_in p ps w)) (text s) v c)) (λ hw. at_code limit _ _ _ c 58 _ _
    (λ hc. after_read (at_awaited (value_in p ps w s v [])) (h.0.0, h.0.1, h.0.2, h.1, h.2, h.4, tt, h.0.3) (rw hc (simp append_assoc)))
    (λ hm more d x. (
      ((path_text (key_in p ps w) ++ (text s ++ v), refl), hw, (λ e. eqb-false c 58 hm e)),
      (
        record {
          place = record {
            prefix = path_text (key_in p ps w) ++ (text s ++ v);
            ends = refl;
            error_free = error_free_after limit (key_in p ps w) s v h;
            no_string = d.no_quote (nq tt);
          };
          without_error = taken_key limit p ps w s v h;
        },
        x.loosely refl,
      ),
    )))
after_follows limit (value_in p ps a k b w) s v h fs q nq c = either limit _ _ _ c (is_white c) _ _
    (λ hc. after_read (at_after (value_in p ps a k b w) s (v ++ c ∷ [])) (more_white limit (value_in p ps a k b w) s v h c hc)
    (longer (path_text (value_in p ps a k b w)) (text s) v c)) (λ hw. at_code limit _ _ _ c 44 _ _
    (λ hc. let q : Pair = record { before_key = a; key = k; after_key = b; before = w; value = s; after = v } in
    record {
      read = at_awaited (key_in p (ps ++ q ∷ []) []);
      is = (
        h.0.0,
        ArePairs_push ps q h.0.1 (record {
          before_key = h.0.2;
          is_key = h.0.4;
          key = h.0.3;
          after_key = h.0.5;
          before = h.0.6;
          value = h.1;
          after = h.4;
        }),
        tt,
        within_max limit _ _ _ h.0.7 h.3 (rw (pairs_deepest_push ps q) (rw (key_depth k h.0.4) (omega arith))),
      );
      whole = rw hc (simp (pairs_push, append_assoc, append-nil));
      frames = ap (λ ms. Machine.at_key ms ∷ path_frames p) (sym (members_push no_members ps q));
      phase = refl;
    }) (λ hn. at_code limit _ _ _ c 125 _ _ (λ hc. subst (λ ms. Follows limit (path_text (value_in p ps a k b w) ++ (text s ++ v)) fs q c
    (complete true (path_frames p) (tree.object ms) true)) (members_of_pairs no_members ps a k b w s v)
    (complete_follows limit p h.0.0 (object (pairs_with ps a k b w s v))
    (pair_value ps a k b w s v h.0.1 h.0.2 h.0.4 h.0.3 h.0.5 h.0.6 h.1 h.4)
    (within_max limit _ _ _ h.0.7 h.3 (rw (depth_of_pairs ps a k b w s v) (rw (key_depth k h.0.4) (omega arith)))) (λ rest. tt)
    (path_text (value_in p ps a k b w) ++ (text s ++ v)) _ _ c (rw hc (simp (text_of_pairs, append_assoc))))) (λ hm more d x. (
      ((path_text (value_in p ps a k b w) ++ (text s ++ v), refl), hw, (λ e. eqb-false c 44 hn e), (λ e. eqb-false c 125 hm e)),
      (
        record {
          place = record {
            prefix = path_text (value_in p ps a k b w) ++ (text s ++ v);
            ends = refl;
            error_free = error_free_after limit (value_in p ps a k b w) s v h;
            no_string = d.no_quote (nq tt);
          };
          without_error = closed_object limit p ps a k b w s v h;
        },
        x.loosely refl,
      ),
    ))))
