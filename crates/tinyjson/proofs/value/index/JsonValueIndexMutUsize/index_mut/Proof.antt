-- The item of the array that the value holds is lent on, and the value follows it.
use Rattle.tinyjson.proofs.Values.Index.Steps.{ℕ, [], ◌∷◌, ◌≡◌, refl, sym, ap, w64, MutBor, List, Val, proved, id⊢, ftrue, flft, named}
use Rattle.tinyjson.proofs.Values.Index.Steps.{vptr, fact, tables, ‵, raw, ◌⊛◌, some, later, ◌$◌, ◌∵◌, !, qed, done, move, keep, drop, use0}
use Rattle.tinyjson.proofs.Values.Index.Steps.{use1, use2, split, join, fsplit3, fjoin3, feq_i, feq_l, pick, await, rewrite, suffices}
use Rattle.tinyjson.proofs.Values.Index.Steps.{frame, group, enter, addr, stop, no_more, and_then, returns, alloc_all, pass_all, free_all}
use Rattle.tinyjson.proofs.Values.Index.Steps.{look_at, get, through, sets, lands_as, usize, yes, no, uint_Makes, uint_vals, uint_Tells}
use Rattle.tinyjson.proofs.Values.Index.Steps.{MutRef, mut_vals, mut_Tells, plain, mut_ref_to, nothing, owned, heard, only, calls_at, lasts}
use Rattle.tinyjson.proofs.Values.Index.Steps.{triple_of, Stays, says, stay_dropped, Goes-dropped, Goes-spent_ref, ends_at, framed, follows}
use Rattle.tinyjson.proofs.Values.Index.Steps.{follows_then, fact_i, emp}
use Rattle.tinyjson.proofs.Values.Index.{is_item_at, within_array}
use Rattle.std.specs.Prelude.{Option, Some, None, IsSome, slice_get, length, ◌<◌, option_and_then}
use Rattle.std.specs.Option.{option_map_or}
use Rattle.std.specs.Vec.{with_item}
use Rattle.tinyjson.specs.declared.value.JsonValue as made
use Rattle.tinyjson.specs.Access.{array_part}
use Rattle.tinyjson.specs.Index.{item_at}
use Rattle.tinyjson.specs.private.Rows.{array_row}
use Rattle.tinyjson.specs.contracts.value.JsonValue.{the_row}
use Rattle.tinyjson.specs.contracts.value.index.JsonValueIndexMutUsize.index_mut as f
use Rattle.tinyjson.proofs.value.index.JsonValueIndexMutUsize.index_mut.Statement.{statement}
use Rattle.tinyjson.proofs.value.index.JsonValueIndexMutUsize.index_mut.Code as code
use Rattle.tinyjson.specs.contracts.value.index.array_mut as g
use Rattle.tinyjson.proofs.value.index.array_mut.Met as g-met
use Rattle.tinyjson.specs.contracts.value.index.item_mut as h
use Rattle.tinyjson.proofs.value.index.item_mut.Met as h-met

abbrev stayed : Stays f.ended.signature.params f.ended.kept
stayed = (stay_dropped (mut_ref_to (0 ∷ []) tt (plain (λ _. the_row))) no, (stay_dropped _ yes, tt))

seen : (o : Option array_row.Denot) (i : ℕ) → IsSome (option_and_then (λ (l : array_row.Denot). slice_get l.items i) o) → IsSome o
seen (Some l) i h = refl
seen None i h = h

has_list : (v : made.JsonValue) (i : ℕ) → IsSome (item_at v i) → IsSome (array_part v)
has_list v i h = seen (array_part v) i h

pub index_mut_spec : {M : Type 1} → statement M
index_mut_spec 𝓤 𝓛 𝓜 𝓡 wired =
    let c = f.clauses 𝓛 𝓜.mem 𝓡.returns in
    proved 𝓛 f.ended stayed c 𝓜 𝓡 (
      Goes-spent_ref 𝓛 1 (0 ∷ []) tt (plain (λ _. the_row)),
      (Goes-dropped 𝓛 1 (plain (λ _. usize)) yes (λ κs x w. refl), tt),
    )
    f.Key.name code.function (code.unfolded 𝓤 𝓛.H 𝓜 𝓡 wired)
    (λ κs. (mut_vals, (uint_vals w64, tt))) (λ κs. (mut_Tells (named 0) κs.0 the_row, (uint_Tells w64, tt))) (λ κs qs bounds a _ are.
    let κ = κs.0 in let q = qs.0 in let r = a.0 in let i = a.1.0 in let vs = mut_vals r in
    qed 𝓛 (((‵ (flft κ q) ⊛ ‵ ftrue) ⊛ ‵ ((MutRef (named 0) κ the_row).own_val r vs) ⊛ ‵ (usize.own_val i (uint_vals w64 i)) ⊛ ‵ ftrue)
    ∷ raw (fact 𝓤 (IsSome (item_at r.now i))) ∷ []) ∵
    split ! $ move ! (2 ∷ []) $ heard ! _ (λ there. split ! $ move ! (2 ∷ []) $ split ! $ keep ! (0 ∷ 2 ∷ []) $
    -- [self; the token]
    enter ! _ _ _ _ _ $ alloc_all ! (λ l. pass_all ! refl ((tt, tt), ((tt, record { fits = are.1.0.1 }), tt)) $
    sets ! (addr ! (through ! refl (stop !))) refl (tt, tt) $
    let G = triple_of 𝓛 g.signature (g.spec 𝓛 𝓜.mem 𝓡.returns) in
    let z : G.Ghost = ((κs, qs, bounds, (r, tt), (vs, tt)), tt) in
    nothing ! $ move ! (1 ∷ 0 ∷ []) $ join ! $ nothing ! $ move ! (2 ∷ 0 ∷ []) $ join ! $ join ! $
    use0 𝓛 (raw (fact 𝓤 (IsSome (array_part r.now)))) (fact_i 𝓤 _ (emp 𝓤) (has_list r.now i there)) $ move ! (1 ∷ 0 ∷ []) $
    use2 𝓛 (raw (G.pre z)) (id⊢ 𝓤 _) $
    calls_at ! (framed 𝓤 𝓛.H 𝓜 (tables 𝓤 𝓛.H 𝓜 𝓡 𝓡.env)) G (g-met.met 𝓤 𝓛 𝓜 𝓡 (code.calls-tinyjson::value::index::array_mut 𝓡.env wired)) z
    (and_then ! (get ! refl) (no_more !)) (λ v.
    use1 𝓛 (later (some (λ (x : MutBor array_row.Denot). ((‵ (flft κ q) ⊛ ‵ ftrue) ⊛ ‵ ((MutRef (named 0) κ array_row).own_val x (v ∷ [])))
    ⊛
    some (λ (ws : Unit {0} × Unit {0}). ‵ (lasts g.ended κs (r, tt) ws) ⊛ ‵
    (follows the_row array_row r.ghost_name x.ghost_name made.Array) ⊛ raw (fact 𝓤 (array_part r.now ≡ Some x.now)))))) (id⊢ 𝓤 _) $
    await ! tt $ pick ! (λ x. split ! $ split ! $ split ! $ move ! (3 ∷ []) $ pick !
    (λ ws. split ! $ drop ! $ split ! $ move ! (1 ∷ []) $ heard ! _ (λ listed.
    -- [how self follows the list; the token; nothing; the list]
    move ! (3 ∷ []) $ fsplit3 ! $ feq_l ! (λ at_x. lands_as ! (ap only at_x) refl (tt, tt) $
    feq_i ! (List Val) (mut_vals x) (mut_vals x) refl $ fjoin3 ! $
    -- [the list; how self follows it; the token; nothing]
    let G' = triple_of 𝓛 h.signature (h.spec 𝓛 𝓜.mem 𝓡.returns) in
    let z' : G'.Ghost = ((κs, qs, bounds, (x, (i, tt)), (mut_vals x, (uint_vals w64 i, tt))), tt) in
    owned ! usize _ (uint_Makes 𝓛 w64) i _ (refl, are.1.0.1) $ nothing ! $ move ! (1 ∷ 0 ∷ []) $ join ! $ move ! (1 ∷ 0 ∷ []) $ join ! $
    move ! (2 ∷ 3 ∷ []) $ join ! $ join ! $
    use0 𝓛 (raw (fact 𝓤 (i < length x.now.items))) (fact_i 𝓤 _ (emp 𝓤) (within_array r.now i x.now there listed)) $ move ! (1 ∷ 0 ∷ []) $
    use2 𝓛 (raw (G'.pre z')) (id⊢ 𝓤 _) $
    calls_at ! (framed 𝓤 𝓛.H 𝓜 (tables 𝓤 𝓛.H 𝓜 𝓡 𝓡.env)) G' (h-met.met 𝓤 𝓛 𝓜 𝓡 (code.calls-tinyjson::value::index::item_mut 𝓡.env wired)) z'
    (and_then ! (get ! refl) (and_then ! (get ! refl) (no_more !))) (λ v'.
    use1 𝓛 (later (some (λ (y : MutBor the_row.Denot). ((‵ (flft κ q) ⊛ ‵ ftrue) ⊛ ‵ ((MutRef (named 0) κ the_row).own_val y (v' ∷ []))) ⊛
    some (λ (ws : Unit {0} × (Unit {0} × Unit {0})). ‵ (lasts h.ended κs (x, (i, tt)) ws) ⊛ ‵
    (follows array_row the_row x.ghost_name y.ghost_name (with_item x.now i)) ⊛ raw (fact 𝓤 (slice_get x.now.items i ≡ Some y.now))))))
    (id⊢ 𝓤 _) $
    await ! tt $ pick ! (λ y. split ! $ split ! $ split ! $ move ! (3 ∷ []) $ pick !
    (λ ws'. split ! $ drop ! $ split ! $ move ! (1 ∷ []) $ heard ! _ (λ found.
    -- [how the list follows the item; the token; nothing; the item; how self follows the list]
    move ! (3 ∷ []) $ fsplit3 ! $ feq_l ! (λ at_y. lands_as ! (ap only at_y) refl (tt, tt) $
    feq_i ! (List Val) (mut_vals y) (mut_vals y) refl $ fjoin3 ! $ move ! (4 ∷ 1 ∷ []) $
    use2 𝓛 (‵ (follows the_row the_row r.ghost_name y.ghost_name (λ w. made.Array (with_item x.now i w))))
    (follows_then 𝓛 the_row array_row the_row made.Array (with_item x.now i) r.ghost_name x.ghost_name y.ghost_name) $
    rewrite ! 0 (λ (o : Option array_row.Denot). ‵ (follows the_row the_row r.ghost_name y.ghost_name
    (λ w. option_map_or (λ m. made.Array (with_item m i w)) o r.now))) (sym listed) refl $
    -- [how self follows the item; the item; the token; nothing]
    returns ! (look_at ! 0 refl) $ free_all ! refl $
    suffices ! _ (ends_at 𝓛 f.ended stayed c ((κs, qs, bounds, a, (vs, (uint_vals w64 i, tt))), tt) (vptr y.ref_ptr.0 y.ref_ptr.1) y
    (tt, (tt, tt)) (tt, (tt, tt))) $
    move ! (2 ∷ 3 ∷ []) $ join ! $ nothing ! $ nothing ! $ join ! $ nothing ! $ join ! $ move ! (1 ∷ 0 ∷ 3 ∷ []) $ group ! 3 $ frame ! $
    says ! (is_item_at r.now i x.now y.now listed found) $ done !)))))))))))))
