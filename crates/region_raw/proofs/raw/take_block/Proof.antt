-- `take_block` asks the heap for a block, and owns it as blank bytes. Assumes `Logic`.
use Rattle.std.proofs.Common.{true, false}
use Rattle.region_raw.proofs.Walks.{◌≡◌, ℕ, ◌*◌, ◌<◌, ◌^◌, List, [], ◌∷◌, Option, Some, None, length, replicate, refl, sym, subst, ◌∙◌, lit<, arith, w64, proved, id⊢, emp, ftrue, flft, named, Val, vint, vcons, vnil, fact, fact_i, tables, ‵, raw, ◌⊛◌, some, later, at_ret, ◌$◌, ◌∵◌, !, qed, move, keep, leave, use0, use1, use2, await, pick, split, join, fjoin, feq_i, flt_i, rewrite, suffices, done, whole, agg, enter, of_opd, lit, get, get_in, fld, stop, switches_on, no_more, and_then, first, exec, returns, alloc_all, pass_all, free_all, look_at, sets, sets_last, env, usize, yes, uint_vals, uint_Tells, owns, Ptr, block_ptr, plain, nothing, heard, Stays, walk_of, says, stay_dropped, Goes-dropped, ends_at, length-replicate}
use types.Kit.{any_q}
use types.Match.{live, vrt, in_variant}
use types.ByLocal.{get_tag, lands_as}
use prog.Memory.{size, align, capped}
use prog.Capped.{capped_is}
use prog.Wp.{Wp, after_seq, at_return}
use denote.Builtin.{RefOf}
use denote.Ref.{ShrRef, shr_vals}
use denote.Struct.Tuple.{Tuple}
use denote.Triple.Call.{calls_at}
use denote.Triple.Clauses.{lasts}
use denote.Triple.Spec.{triple_of}
use denote.Triple.Table.{framed}
use Rattle.core.specs.Allocator.{block_if_ok}
use Rattle.core.specs.contracts.option.Option as OP
use Rattle.core.proofs.alloc.Calls.{Answer, Answer-typed}
use Rattle.core.proofs.alloc.Shapes.{arm_body}
use Rattle.core.proofs.option.Made.{Some-of, none_of}
use Rattle.std_heap.specs.contracts.Global as HP
use Rattle.std_heap.specs.contracts.GlobalAllocator.allocate as g
use Rattle.std_heap.proofs.GlobalAllocator.allocate.Met.{met}
use Rattle.region_raw.specs.Ownership.{heap_right, row, bytes_ty}
use Rattle.region_raw.specs.contracts.raw.take_block as f
use Rattle.region_raw.specs.declared.raw.Start.{Start}
use Rattle.region_raw.specs.declared.raw.RawBytes.{RawBytes}
use Rattle.region_raw.specs.declared.raw.Right.{Right}
use Rattle.region_raw.proofs.Blocks.{Made, made, made_val, room_is_blank, on_answer, right_is}
use Rattle.region_raw.proofs.raw.take_block.Statement.{statement}
use Rattle.region_raw.proofs.raw.take_block.Code as code
use base.Fml.{Fml}

abbrev stayed : Stays f.ended.signature.params f.ended.kept
stayed = (stay_dropped (RefOf (0 ∷ []) tt (plain (λ _. HP.the_row)) (λ _. tt)) yes, (stay_dropped (plain (λ _. usize)) yes, tt))

pub take_block_spec : {M : Type 1} → statement M
take_block_spec 𝓤 𝓛 𝓜 𝓡 wired =
    let c = f.clauses 𝓛 𝓜.mem 𝓡.returns in let W = walk_of 𝓛 f.ended stayed c in let 𝓣 = tables 𝓤 𝓛.H 𝓜 𝓡 𝓡.env in
    let G = triple_of 𝓛 g.signature (g.spec 𝓛 𝓜.mem 𝓡.returns) in
    proved 𝓛 f.ended stayed c 𝓜 𝓡 (Goes-dropped 𝓛 1 (RefOf (0 ∷ []) tt (plain (λ _. HP.the_row)) (λ _. tt)) yes (λ κs x w. refl), (Goes-dropped 𝓛 1 (plain (λ _. usize)) yes (λ κs x w. refl), tt))
    f.Key.name code.function (code.unfolded 𝓤 𝓛.H 𝓜 𝓡 wired)
    (λ κs. (shr_vals, (uint_vals w64, tt))) (λ κs. ((λ r vs s. s.0), (uint_Tells w64, tt))) (λ κs qs bounds a _ are.
    let κ = κs.0 in let q = qs.0 in let r = a.0 in let n = a.1.0 in let τ = bytes_ty n in let fits : n < 2 ^ 64 = are.1.0.1 in
    let y : W.Ghost = ((κs, qs, bounds, a, (shr_vals r, (uint_vals w64 n, tt))), tt) in
    let z : G.Ghost = ((κs, qs, tt, (r, (n, (1, tt))), (shr_vals r, (uint_vals w64 n, (uint_vals w64 1, tt)))), τ) in
    qed 𝓛 (((‵ (flft κ q) ⊛ ‵ ftrue) ⊛ (‵ ((ShrRef (named 0) κ HP.the_row).own_val r (shr_vals r)) ⊛ ‵ (owns (usize ∷ []) a.1 y.0.4.1))) ∷ (raw (fact 𝓤 (0 < n)) ⊛ raw (fact 𝓤 (n < 2 ^ 63))) ∷ []) ∵
    split ! $ split ! $ move ! (2 ∷ []) $ split ! $ move ! (4 ∷ []) $ split ! $ heard ! _ (λ has. heard ! _ (λ small. keep ! (0 ∷ 2 ∷ []) $
    let shaped : (capped (size τ) ≡ n) × (capped (align τ) ≡ 1) = (capped_is (n * 1) (omega arith) ∙ omega arith, refl) in
    let Out = OP.the_row (Tuple Made) in
    enter ! _ _ _ _ _ $ alloc_all ! (λ l. pass_all ! refl ((tt, tt), ((tt, record { fits = fits }), tt)) $
    let En = env code.Mir.locals l in
    let Then = any_q (after_seq 𝓤 𝓛.H (Wp 𝓤 𝓛.H 𝓣.C 𝓣.Λ En code.Mir.t-3 (at_return 𝓤 𝓛.H En (W.post y))) (at_return 𝓤 𝓛.H En (W.post y))) in
    -- [the heap's `&`; the token]
    use0 𝓛 (raw (fact 𝓤 ((capped (size τ) ≡ n) × (capped (align τ) ≡ 1)))) (fact_i 𝓤 ((capped (size τ) ≡ n) × (capped (align τ) ≡ 1)) (emp 𝓤) shaped) $
    nothing ! $ flt_i ! 1 (2 ^ 64) (lit< tt) $ feq_i ! (List Val) (vint w64 1 ∷ []) (vint w64 1 ∷ []) refl $ fjoin ! $ fjoin ! $
    flt_i ! n (2 ^ 64) fits $ feq_i ! (List Val) (vint w64 n ∷ []) (vint w64 n ∷ []) refl $ fjoin ! $ fjoin ! $ move ! (2 ∷ 0 ∷ []) $ fjoin ! $
    nothing ! $ move ! (3 ∷ 0 ∷ []) $ join ! $ join ! $ join ! $ use1 𝓛 (raw (G.pre z)) (id⊢ 𝓤 _) $
    calls_at ! (framed 𝓤 𝓛.H 𝓜 𝓣) G (met 𝓤 𝓛 𝓜 𝓡 (code.calls-std_heap::GlobalAllocator::allocate 𝓡.env wired)) z (and_then ! (get ! refl) (and_then ! (get ! refl) (and_then ! (lit ! tt) (no_more !)))) (λ v.
    use1 𝓛 (later (some (λ (u : Answer.Denot). ((‵ (flft κ q) ⊛ ‵ ftrue) ⊛ ‵ (Answer.own_val u (v ∷ []))) ⊛
    some (λ (ws : Unit {0} × (Unit {0} × (Unit {0} × Unit {0}))). ‵ (lasts g.ended z.0.0 z.0.3 ws) ⊛ ‵ (block_if_ok heap_right τ u))))) (id⊢ 𝓤 _) $
    await ! tt $ pick ! (λ u. split ! $ split ! $ move ! (2 ∷ []) $ pick ! (λ ws. split ! $ leave ! $ move ! (2 ∷ 0 ∷ []) $
    -- [the answer; the block; the token]
    on_answer ! τ v u
    (λ b o is.
    let p : Ptr = block_ptr b o in let x : Start = record { ptr = p } in let d : RawBytes = record { at = p; bytes = replicate n None } in let t : Right = record { at = p; len = n } in let m = made_val x in
    lands_as ! is refl (Answer-typed true b o) $ first ! $ switches_on ! (get_tag ! (vrt ! refl (fld ! refl (stop !))) (whole !)) $ exec ! 𝓣.C 𝓣.Λ En (arm_body 0 code.Mir.s-2) Then $
    sets ! (of_opd ! (get_in ! (vrt ! refl (fld ! refl (stop !))) (in_variant ! 0 0 refl refl (whole !)))) refl (tt, tt) $
    sets ! (agg ! (and_then ! (get ! refl) (no_more !))) refl (tt, (tt, tt)) $ sets ! (agg ! (no_more !)) refl (tt, tt) $ sets ! (agg ! (no_more !)) refl (tt, tt) $
    sets ! (agg ! (and_then ! (get ! refl) (and_then ! (get ! refl) (and_then ! (get ! refl) (no_more !))))) refl (tt, ((tt, tt), (tt, (tt, tt)))) $
    sets_last ! (agg ! (and_then ! (lit ! tt) (and_then ! (get ! refl) (no_more !)))) refl (tt, (record { fits = lit< tt }, (((tt, tt), (tt, (tt, tt))), tt))) $
    exec ! 𝓣.C 𝓣.Λ En code.Mir.t-3 (at_ret En (W.post y)) $ sets ! (of_opd ! (get ! refl)) refl (tt, (record { fits = lit< tt }, (((tt, tt), (tt, (tt, tt))), tt))) $
    use1 𝓛 (‵ (row b o (replicate n None))) (room_is_blank 𝓛 b n o) $ flt_i ! (length (replicate {A = Option ℕ} n None)) (2 ^ 63) (subst (λ k. k < 2 ^ 63) (sym (length-replicate {A = Option ℕ} n None)) small) $ fjoin ! $
    rewrite ! 1 (λ (F : Fml). ‵ F) (sym (right_is p n has)) refl $ use2 𝓛 (‵ ((Tuple Made).own_val (x, d, t) (m ∷ []))) (made 𝓛 x d t) $
    use1 𝓛 (‵ (Out.own_val (Some (x, d, t)) (live 1 (vcons m vnil) ∷ []))) (Some-of 𝓛 (Tuple Made) (x, d, t) m) $
    returns ! (look_at ! 0 refl) $ free_all ! refl $ keep ! (0 ∷ 1 ∷ []) $
    suffices ! _ (ends_at 𝓛 f.ended stayed c y (live 1 (vcons m vnil)) (Some (x, d, t)) (tt, (tt, tt)) (tt, (tt, tt))) $ says ! (refl, refl, refl, refl) $
    nothing ! $ nothing ! $ fjoin ! $ nothing ! $ fjoin ! $ join ! $ move ! (1 ∷ 0 ∷ []) $ join ! $ done !)
    (λ is.
    lands_as ! is refl (Answer-typed false 0 0) $ first ! $ switches_on ! (get_tag ! (vrt ! refl (fld ! refl (stop !))) (whole !)) $ exec ! 𝓣.C 𝓣.Λ En (arm_body 1 code.Mir.s-2) Then $
    sets_last ! (agg ! (and_then ! (lit ! tt) (no_more !))) refl (tt, (record { fits = lit< tt }, tt)) $
    exec ! 𝓣.C 𝓣.Λ En code.Mir.t-3 (at_ret En (W.post y)) $ sets ! (of_opd ! (get ! refl)) refl (tt, (record { fits = lit< tt }, tt)) $
    use0 𝓛 (‵ (Out.own_val None (live 0 vnil ∷ []))) (none_of 𝓛 (Tuple Made)) $
    returns ! (look_at ! 0 refl) $ free_all ! refl $ keep ! (0 ∷ 1 ∷ []) $
    suffices ! _ (ends_at 𝓛 f.ended stayed c y (live 0 vnil) None (tt, (tt, tt)) (tt, (tt, tt))) $ says ! tt $
    nothing ! $ nothing ! $ fjoin ! $ nothing ! $ fjoin ! $ join ! $ move ! (1 ∷ 0 ∷ []) $ join ! $ done !))))))))
