-- The member of the object that the value holds is lent on, and the value follows it.
use Rattle.tinyjson.proofs.Values.Index.Steps.{ℕ, [], ◌∷◌, ◌≡◌, refl, sym, ap, ◌∙◌, lit<, MutBor, List, Val, proved, id⊢, ftrue, flft}
use Rattle.tinyjson.proofs.Values.Index.Steps.{named, vptr, fact, tables, ‵, raw, ◌⊛◌, some, later, ◌$◌, ◌∵◌, !, qed, done, move, keep}
use Rattle.tinyjson.proofs.Values.Index.Steps.{drop, use0, use1, use2, split, join, fsplit, fsplit3, fjoin3, feq_i, feq_l, pick, await}
use Rattle.tinyjson.proofs.Values.Index.Steps.{rewrite, suffices, frame, group, enter, addr, stop, no_more, and_then, returns, alloc_all}
use Rattle.tinyjson.proofs.Values.Index.Steps.{pass_all, free_all, look_at, get, through, sets, lands_as, yes, no, MutRef, mut_vals}
use Rattle.tinyjson.proofs.Values.Index.Steps.{mut_Tells, plain, mut_ref_to, nothing, heard, only, calls_at, lasts, triple_of, Stays, says}
use Rattle.tinyjson.proofs.Values.Index.Steps.{stay_dropped, Goes-dropped, Goes-spent_ref, ends_at, framed, follows, fact_i, emp}
use mathlib.Core.Option as maybe
use base.Fml.{feq, fsep}
use denote.Triple.Clauses.{Lasts}
use denote.Builtin.{u8}
use denote.Follow.{follows_so}
use denote.Slice.{ShrSlice, shr_slice_vals, shr_slice_Tells}
use denote.Such.{such_Tells}
use denote.Text.{Str, StrRefOf, Utf8}
use Rattle.std.proofs.Common.{subst, true≢false, is_some}
use Rattle.std.proofs.option.Made.{Some-of}
use Rattle.std.specs.Prelude.{Option, Some, None, IsSome, OnSome, ⊤, option_map, option_and_then}
use Rattle.std.specs.HashMap.{get_by_text}
use Rattle.std.specs.Option.{IfSome, ghost_name_of}
use Rattle.tinyjson.proofs.Values.Index.{is_member_at}
use Rattle.tinyjson.proofs.Values.Index.Lending.{follows_so_then}
use Rattle.tinyjson.proofs.Values.Index.Places.{Place, place_val, place_out}
use Rattle.tinyjson.specs.declared.value.JsonValue as made
use Rattle.tinyjson.specs.Access.{JsonMap, object_part}
use Rattle.tinyjson.specs.Index.{member_at, IsMapWith, IsWithMember}
use Rattle.tinyjson.specs.private.Rows.{object_row}
use Rattle.tinyjson.specs.contracts.value.JsonValue.{the_row}
use Rattle.tinyjson.specs.contracts.value.index.JsonValueIndexMutRefStr.index_mut as f
use Rattle.tinyjson.proofs.value.index.JsonValueIndexMutRefStr.index_mut.Statement.{statement}
use Rattle.tinyjson.proofs.value.index.JsonValueIndexMutRefStr.index_mut.Code as code
use Rattle.tinyjson.specs.contracts.value.index.object_mut as g
use Rattle.tinyjson.proofs.value.index.object_mut.Met as g-met
use Rattle.tinyjson.specs.contracts.value.index.member_mut as h
use Rattle.tinyjson.proofs.value.index.member_mut.Met as h-met
use Rattle.tinyjson.specs.contracts.value.index.found as k
use Rattle.tinyjson.proofs.value.index.found.Met as k-met

abbrev stayed : Stays f.ended.signature.params f.ended.kept
stayed = (stay_dropped (mut_ref_to (0 ∷ []) tt (plain (λ _. the_row))) no, (stay_dropped _ yes, tt))

seen : (o : Option JsonMap) (bs : List ℕ) → IsSome (option_and_then (λ (m : JsonMap). get_by_text m bs) o) → IsSome o
seen (Some m) bs h = refl
seen None bs h = h

has_object : (v : made.JsonValue) (bs : List ℕ) → IsSome (member_at v bs) → IsSome (object_part v)
has_object v bs h = seen (object_part v) bs h

abbrev PlaceAt : Type 0
PlaceAt = MutBor the_row.Denot

in_object : (v : made.JsonValue) (bs : List ℕ) (m : JsonMap) → IsSome (member_at v bs) → object_part v ≡ Some m → IsSome (get_by_text m bs)
in_object v bs m h e = subst (λ (o : Option JsonMap). IsSome (option_and_then (λ (n : JsonMap). get_by_text n bs) o)) e h

at_key : (v : made.JsonValue) (bs : List ℕ) (m : JsonMap) (x : made.JsonValue) → object_part v ≡ Some m → get_by_text m bs ≡ Some x
    → member_at v bs ≡ Some x
at_key v bs m x e at = ap (λ (o : Option JsonMap). option_and_then (λ (n : JsonMap). get_by_text n bs) o) e ∙ at

with_member : (v : made.JsonValue) (bs : List ℕ) (m : JsonMap) (w : made.JsonValue) (n : JsonMap) → object_part v ≡ Some m
    → IsMapWith m bs w n → IsWithMember v bs w (made.Object n)
with_member v bs m w n e put = subst (λ (o : Option JsonMap). IfSome o
    (λ (m' : JsonMap). (new : JsonMap) × (made.Object n ≡ made.Object new) × IsMapWith m' bs w new)) (sym e) (n, refl, put)

there_is : {A B : Type 0} (of : A → B) (p : Option A) (o : Option B) → option_map of p ≡ o → IsSome o → (y : A) × (p ≡ Some y)
there_is of (Some y) o e h = (y, refl)
there_is of None o e h = absurd (true≢false (sym (ap is_some e ∙ h)))

some_same : {A : Type 0} (x y : A) → Some x ≡ Some y → x ≡ y
some_same x y h = cc

pub index_mut_spec : {M : Type 1} → statement M
index_mut_spec 𝓤 𝓛 𝓜 𝓡 wired =
    let c = f.clauses 𝓛 𝓜.mem 𝓡.returns in
    proved 𝓛 f.ended stayed c 𝓜 𝓡 (
      Goes-spent_ref 𝓛 2 (0 ∷ []) tt (plain (λ _. the_row)),
      (Goes-dropped 𝓛 2 (StrRefOf {n = 2} (1 ∷ []) tt) yes (λ κs x w. refl), tt),
    )
    f.Key.name code.function (code.unfolded 𝓤 𝓛.H 𝓜 𝓡 wired)
    (λ κs. (mut_vals, (shr_slice_vals, tt))) (λ κs. (
      mut_Tells (named 0) κs.0 the_row,
      (
        such_Tells (ShrSlice (named 1) κs.1.0 u8) (λ x. Utf8 x.now) (λ x cs. (tt, tt)) shr_slice_vals
            (shr_slice_Tells (named 1) κs.1.0 u8),
        tt,
      ),
    )) (λ κs qs bounds a _ are.
    let κ = κs.0 in let q = qs.0 in let κ' = κs.1.0 in let q' = qs.1.0 in let r = a.0 in let key = a.1.0 in let vs = mut_vals r in let ks =
    shr_slice_vals key in
    let Text = Str (named 1) κ' in let Ref = λ (y : PlaceAt). (MutRef (named 0) κ the_row).own_val y (vptr y.ref_ptr.0 y.ref_ptr.1 ∷ []) in
    qed 𝓛 (((‵ (flft κ q) ⊛ ‵ (flft κ' q') ⊛ ‵ ftrue) ⊛ ‵ ((MutRef (named 0) κ the_row).own_val r vs) ⊛ ‵ (Text.own_val key ks) ⊛ ‵ ftrue)
    ∷ raw (fact 𝓤 (IsSome (member_at r.now key.now))) ∷ []) ∵
    split ! $ move ! (2 ∷ []) $ heard ! _ (λ there. split ! $ move ! (1 ∷ []) $ split ! $ move ! (3 ∷ []) $ split ! $ move !
    (1 ∷ []) $ split ! $ keep ! (2 ∷ 5 ∷ 3 ∷ 0 ∷ []) $
    -- [self; its token; the key's token; the key]
    enter ! _ _ _ _ _ $ alloc_all ! (λ l. pass_all ! refl ((tt, tt), ((tt, (tt, (record { fits = are.1.0.0.0.1.0 }, tt))), tt)) $
    sets ! (addr ! (through ! refl (stop !))) refl (tt, tt) $
    let G = triple_of 𝓛 g.signature (g.spec 𝓛 𝓜.mem 𝓡.returns) in
    let z : G.Ghost = (((κ, tt), (q, tt), tt, (r, tt), (vs, tt)), tt) in
    nothing ! $ move ! (1 ∷ 0 ∷ []) $ join ! $ nothing ! $ move ! (2 ∷ 0 ∷ []) $ join ! $ join ! $
    use0 𝓛 (raw (fact 𝓤 (IsSome (object_part r.now)))) (fact_i 𝓤 _ (emp 𝓤) (has_object r.now key.now there)) $ move ! (1 ∷ 0 ∷ []) $
    use2 𝓛 (raw (G.pre z)) (id⊢ 𝓤 _) $
    calls_at ! (framed 𝓤 𝓛.H 𝓜 (tables 𝓤 𝓛.H 𝓜 𝓡 𝓡.env)) G (g-met.met 𝓤 𝓛 𝓜 𝓡 (code.calls-tinyjson::value::index::object_mut 𝓡.env wired)) z
    (and_then ! (get ! refl) (no_more !)) (λ v.
    use1 𝓛 (later (some (λ (x : MutBor object_row.Denot). ((‵ (flft κ q) ⊛ ‵ ftrue) ⊛ ‵
    ((MutRef (named 0) κ object_row).own_val x (v ∷ []))) ⊛
    some (λ (ws : Unit {0} × Unit {0}). ‵ (lasts g.ended (κ, tt) (r, tt) ws) ⊛ ‵
    (follows the_row object_row r.ghost_name x.ghost_name made.Object) ⊛ raw (fact 𝓤 (object_part r.now ≡ Some x.now)))))) (id⊢ 𝓤 _) $
    await ! tt $ pick ! (λ x. split ! $ split ! $ split ! $ move ! (3 ∷ []) $ pick !
    (λ ws. split ! $ drop ! $ split ! $ move ! (1 ∷ []) $ heard ! _ (λ held.
    -- [how self follows the map; the token; nothing; the map; the key's token; the key]
    move ! (3 ∷ []) $ fsplit3 ! $ feq_l ! (λ at_x. lands_as ! (ap only at_x) refl (tt, tt) $
    feq_i ! (List Val) (mut_vals x) (mut_vals x) refl $ fjoin3 ! $
    -- [the map; how self follows it; the token; nothing; the key's token; the key]
    let G' = triple_of 𝓛 h.signature (h.spec 𝓛 𝓜.mem 𝓡.returns) in
    let z' : G'.Ghost = ((κs, qs, bounds, (x, (key, tt)), (mut_vals x, (ks, tt))), tt) in
    move ! (5 ∷ 3 ∷ []) $ join ! $ move ! (1 ∷ 0 ∷ []) $ join ! $ nothing ! $ move ! (4 ∷ 0 ∷ []) $ join ! $ move !
    (3 ∷ 0 ∷ []) $ join ! $ join ! $ nothing ! $ move ! (1 ∷ 0 ∷ []) $
    use2 𝓛 (raw (G'.pre z')) (id⊢ 𝓤 _) $
    calls_at ! (framed 𝓤 𝓛.H 𝓜 (tables 𝓤 𝓛.H 𝓜 𝓡 𝓡.env)) G' (h-met.met 𝓤 𝓛 𝓜 𝓡 (code.calls-tinyjson::value::index::member_mut 𝓡.env wired))
    z'
    (and_then ! (get ! refl) (and_then ! (get ! refl) (no_more !))) (λ v'.
    let So = λ (p : Option PlaceAt). follows_so object_row the_row x.ghost_name (ghost_name_of p)
    (λ w n. OnSome p (IsMapWith x.now key.now w n)) (λ n. n ≡ x.now) in
    use1 𝓛 (later (some (λ (p : Option PlaceAt). ((‵ (flft κ q) ⊛ ‵ (flft κ' q') ⊛ ‵ ftrue) ⊛ ‵ ((Place 𝓛 the_row κ).own_val p (v' ∷ []))) ⊛
    some (λ (ws : Unit {0} × (Unit {0} × Unit {0})). ‵ (lasts h.ended κs (x, (key, tt)) ws) ⊛ ‵ (So p) ⊛ raw
    (fact 𝓤 (option_map (λ (y : PlaceAt). y.now) p ≡ get_by_text x.now key.now)))))) (id⊢ 𝓤 _) $
    await ! tt $ pick ! (λ p. split ! $ split ! $ move ! (2 ∷ []) $ pick !
    (λ ws'. split ! $ drop ! $ split ! $ move ! (1 ∷ []) $ heard ! _ (λ looked.
    let placed = there_is (λ (o : PlaceAt). o.now) p (get_by_text x.now key.now) looked (in_object r.now key.now x.now there held) in
    let y = placed.0 in
    -- [how the map follows the place; the tokens; the place; how self follows the map]
    rewrite ! 0 (λ (o : Option PlaceAt). ‵ (So o)) placed.1 refl $ move ! (2 ∷ []) $
    rewrite ! 0 (λ (o : Option PlaceAt). ‵ ((Place 𝓛 the_row κ).own_val o (v' ∷ []))) placed.1 refl $
    use1 𝓛 (‵ (fsep (feq (List Val) (v' ∷ []) (place_val 𝓛 the_row κ y ∷ [])) (Ref y))) (place_out 𝓛 the_row κ y v') $ fsplit ! $ feq_l !
    (λ at_p.
    lands_as ! (ap only at_p) refl (tt, (record { fits = lit< tt }, (tt, tt))) $
    use1 𝓛 (‵ ((Place 𝓛 the_row κ).own_val (Some y) (place_val 𝓛 the_row κ y ∷ [])))
    (Some-of 𝓛 (MutRef (named 0) κ the_row) y (vptr y.ref_ptr.0 y.ref_ptr.1)) $
    -- [the place; how the map follows it; the tokens; how self follows the map]
    let G'' = triple_of 𝓛 k.signature (k.spec 𝓛 𝓜.mem 𝓡.returns) in
    let z'' : G''.Ghost = (((κ, tt), (q, tt), tt, (Some y, tt), (place_val 𝓛 the_row κ y ∷ [], tt)), tt) in
    move ! (2 ∷ []) $ split ! $ nothing ! $ move ! (3 ∷ 0 ∷ []) $ join ! $ nothing ! $ move ! (2 ∷ 0 ∷ []) $ join ! $ join ! $
    use0 𝓛 (raw (fact 𝓤 (IsSome (Some y)))) (fact_i 𝓤 _ (emp 𝓤) refl) $ move ! (1 ∷ 0 ∷ []) $
    use2 𝓛 (raw (G''.pre z'')) (id⊢ 𝓤 _) $
    calls_at ! (framed 𝓤 𝓛.H 𝓜 (tables 𝓤 𝓛.H 𝓜 𝓡 𝓡.env)) G'' (k-met.met 𝓤 𝓛 𝓜 𝓡 (code.calls-tinyjson::value::index::found 𝓡.env wired)) z''
    (and_then ! (get ! refl) (no_more !)) (λ v''.
    use1 𝓛 (later (some (λ (y' : PlaceAt). ((‵ (flft κ q) ⊛ ‵ ftrue) ⊛ ‵ ((MutRef (named 0) κ the_row).own_val y' (v'' ∷ []))) ⊛
    some (λ (ws : Lasts k.ended (κ, tt) (Some y, tt)). ‵ (lasts k.ended (κ, tt) (Some y, tt) ws) ⊛ raw (fact 𝓤 (Some y ≡ Some y'))))))
    (id⊢ 𝓤 _) $
    await ! tt $ pick ! (λ y'. split ! $ split ! $ split ! $ move ! (3 ∷ []) $ pick ! (λ ws''. split ! $ drop ! $ heard ! _ (λ same.
    -- [the token; nothing; the place; the key's token; how the map follows it; how self follows the map]
    move ! (2 ∷ []) $ fsplit3 ! $ feq_l ! (λ at_y. lands_as ! (ap only at_y) refl (tt, tt) $
    feq_i ! (List Val) (mut_vals y') (mut_vals y') refl $ fjoin3 ! $ move ! (5 ∷ 4 ∷ []) $
    let Put = λ (o : PlaceAt). follows_so the_row the_row r.ghost_name (maybe.some o.ghost_name) (λ w n. IsWithMember r.now key.now w n)
    (λ n. ⊤) in
    use2 𝓛 (‵ (Put y)) (follows_so_then 𝓛 the_row object_row the_row made.Object (λ w n. OnSome (Some y) (IsMapWith x.now key.now w n))
    (λ n. n ≡ x.now) (λ w n. IsWithMember r.now key.now w n) (λ n. ⊤)
    r.ghost_name x.ghost_name y.ghost_name (λ w n put. with_member r.now key.now x.now w n held put) (λ n e. tt)) $
    rewrite ! 0 (λ (o : PlaceAt). ‵ (Put o)) (some_same y y' same) refl $ move ! (3 ∷ []) $ drop ! $
    -- [how self follows the place; the place; the token; the key's token]
    returns ! (look_at ! 0 refl) $ free_all ! refl $
    suffices ! _ (ends_at 𝓛 f.ended stayed c ((κs, qs, bounds, a, (vs, (ks, tt))), tt) (vptr y'.ref_ptr.0 y'.ref_ptr.1) y' (tt, (tt, tt))
    (tt, (tt, tt))) $
    move ! (2 ∷ 3 ∷ []) $ join ! $ nothing ! $ nothing ! $ join ! $ nothing ! $ join ! $ move ! (1 ∷ 0 ∷ 3 ∷ []) $ group ! 3 $ frame ! $
    says ! (is_member_at r.now key.now y'.now are.1.0.1 (at_key r.now key.now x.now y'.now held
    (sym looked ∙ ap (option_map (λ (o : PlaceAt). o.now)) (placed.1 ∙ same)))) $ done !))))))))))))))))))
