-- `give_block` forgets the bytes and hands the block back. Assumes `Logic`.
use Rattle.std.proofs.Common.{T}
use Rattle.region_raw.proofs.Walks.{◌≡◌, ℕ, ◌<◌, ◌^◌, List, [], ◌∷◌, None, length, replicate, refl, sym, ap, subst, ◌∙◌, lit<, arith, w64, proved, full_share, id⊢, never, emp, ftrue, fat, froom, flft, named, Val, vunit, vint, vptr, fact, fact_i, tables, ‵, raw, ◌⊛◌, some, later, at_ret, ◌$◌, ◌∵◌, !, qed, move, keep, leave, use0, use1, await, pick, split, join, fsplit, fjoin, feq_i, feq_l, flt_l, flt_i, rewrite, suffices, done, whole, sub, enter, of_opd, lit, unit_lit, get, get_in, fld, stop, no_more, and_then, first, blocks, exec, returns, alloc_all, pass_all, free_all, look_at, sets, take_at, give_at, env, usize, unit, yes, layout, uint_vals, uint_Tells, owns, Ptr, block_ptr, in_a_block, plain, nothing, heard, Stays, walk_of, stay_dropped, Goes-dropped, ends_at}
use mir.Val.{has_ty, WT}
use mir.Syntax.{ty_unit}
use prog.Memory.{size, align, capped}
use prog.Capped.{capped_is}
use types.ByLocal.{lands_last}
use denote.Builtin.{RefOf}
use denote.Ref.{ShrRef, shr_vals}
use denote.RawPtr.{rawptr_vals}
use denote.Steps.{only}
use denote.Triple.Call.{calls_at_last}
use denote.Triple.Spec.{triple_of}
use denote.Triple.Table.{framed}
use Rattle.core.proofs.alloc.Calls.{Goes-blank}
use Rattle.std_heap.specs.contracts.Global as HP
use Rattle.std_heap.specs.contracts.GlobalAllocator.deallocate as g
use Rattle.std_heap.proofs.GlobalAllocator.deallocate.Met.{met}
use Rattle.region_raw.specs.Ownership.{owned, to_be_freed, row, bytes_ty}
use Rattle.region_raw.specs.contracts.raw.give_block as f
use Rattle.region_raw.proofs.Starts.{StartRow, word, word_tells, good}
use Rattle.region_raw.proofs.Cuts.{forgotten}
use Rattle.region_raw.proofs.LendTwo.{BytesRow}
use base.Fml.{Fml}
use denote.Triple.Clauses.{lasts}
use Prim.Native.Nat.{◌*◌}
use Rattle.region_raw.proofs.raw.RawBytes.TheLaws as bytes_laws
use Rattle.region_raw.proofs.raw.Right.TheLaws as right_laws
use Rattle.region_raw.proofs.Blocks.{right_is, RightRow, bare, blank_is_room}
use Rattle.region_raw.proofs.raw.give_block.Statement.{statement}
use Rattle.region_raw.proofs.raw.give_block.Code as code

abbrev stayed : Stays f.ended.signature.params f.ended.kept
stayed = (stay_dropped (RefOf (0 ∷ []) tt (plain (λ _. HP.the_row)) (λ _. tt)) yes, (stay_dropped (plain (λ _. StartRow)) yes, (stay_dropped (plain (λ _. usize)) yes, (stay_dropped (plain (λ _. BytesRow)) yes, (stay_dropped (plain (λ _. RightRow)) yes, tt)))))

pub give_block_spec : {M : Type 1} → statement M
give_block_spec 𝓤 𝓛 𝓜 𝓡 wired =
    let c = f.clauses 𝓛 𝓜.mem 𝓡.returns in let W = walk_of 𝓛 f.ended stayed c in let 𝓣 = tables 𝓤 𝓛.H 𝓜 𝓡 𝓡.env in
    let G = triple_of 𝓛 g.signature (g.spec 𝓛 𝓜.mem 𝓡.returns) in
    proved 𝓛 f.ended stayed c 𝓜 𝓡 (Goes-dropped 𝓛 1 (RefOf (0 ∷ []) tt (plain (λ _. HP.the_row)) (λ _. tt)) yes (λ κs x w. refl), (Goes-dropped 𝓛 1 (plain (λ _. StartRow)) yes (λ κs x w. refl), (Goes-dropped 𝓛 1 (plain (λ _. usize)) yes (λ κs x w. refl), (Goes-blank 𝓛 1 (plain (λ _. BytesRow)) yes (λ κs x w. tt), (Goes-blank 𝓛 1 (plain (λ _. RightRow)) yes (λ κs x w. tt), tt)))))
    f.Key.name code.function (code.unfolded 𝓤 𝓛.H 𝓜 𝓡 wired)
    (λ κs. (shr_vals, ((λ x. word x ∷ []), (uint_vals w64, ((λ d. (bytes_laws.the_told).val d ∷ []), ((λ d. (right_laws.the_told).val d ∷ []), tt))))))
    (λ κs. ((λ r vs s. s.0), (word_tells, (uint_Tells w64, ((bytes_laws.the_told).tells, ((right_laws.the_told).tells, tt)))))) (λ κs qs bounds a _ are.
    let κ = κs.0 in let q = qs.0 in let r = a.0 in let p = a.1.0.ptr in let n = a.1.1.0 in let d = a.1.1.1.0 in let cs = d.bytes in let t = a.1.1.1.1.0 in let τ = bytes_ty n in
    let y : W.Ghost = ((κs, qs, bounds, a, (shr_vals r, (word a.1.0 ∷ [], (uint_vals w64 n, (bare ∷ [], (bare ∷ [], tt)))))), tt) in
    qed 𝓛 (((‵ (flft κ q) ⊛ ‵ ftrue) ⊛ (‵ ((ShrRef (named 0) κ HP.the_row).own_val r (shr_vals r)) ⊛ ‵ (owns (StartRow ∷ usize ∷ BytesRow ∷ RightRow ∷ []) a.1 y.0.4.1)))
    ∷ (raw (fact 𝓤 (0 < n)) ⊛ (raw (fact 𝓤 ((d.at ≡ p) × (length cs ≡ n))) ⊛ raw (fact 𝓤 ((t.at ≡ p) × (t.len ≡ n))))) ∷ []) ∵
    split ! $ split ! $ move ! (2 ∷ []) $ split ! $ move ! (4 ∷ []) $ split ! $ heard ! _ (λ has. split ! $ heard ! _ (λ is_d. heard ! _ (λ is_t.
    -- [the heap's `&`; the other arguments; the token]
    move ! (1 ∷ []) $ fsplit ! $ move ! (1 ∷ []) $ fsplit ! $ move ! (1 ∷ []) $ fsplit ! $ move ! (1 ∷ []) $ fsplit ! $ keep ! (2 ∷ 0 ∷ 5 ∷ 6 ∷ []) $
    fsplit ! $ leave ! $ move ! (1 ∷ []) $ fsplit ! $ leave ! $ move ! (1 ∷ []) $
    -- [the bytes; the right; the heap's `&`; the token]
    enter ! _ _ _ _ _ $ alloc_all ! (λ l. pass_all ! refl ((tt, tt), (good p, ((tt, record { fits = are.1.1.0.1 }), ((tt, tt), ((tt, tt), tt))))) $
    rewrite ! 0 (λ (x : Ptr). ‵ (owned x cs)) is_d.0 refl $ in_a_block ! p (λ x. owned x cs) (id⊢ 𝓤 (never 𝓤)) (λ b o e. fsplit ! $ flt_l ! (λ small.
    let long = is_d.1 in let fits : n < 2 ^ 64 = are.1.1.0.1 in
    let z : G.Ghost = ((κs, qs, tt, (r, (block_ptr b o, (n, (1, tt)))), (shr_vals r, (rawptr_vals (block_ptr b o), (uint_vals w64 n, (uint_vals w64 1, tt))))), τ) in
    let shaped : (capped (size τ) ≡ n) × (capped (align τ) ≡ 1) = (capped_is (n * 1) (omega arith) ∙ omega arith, refl) in
    use1 𝓛 (‵ (row b o (replicate (length cs) None))) (forgotten 𝓛 b cs o) $ rewrite ! 0 (λ (k : ℕ). ‵ (row b o (replicate k None))) long refl $ use1 𝓛 (‵ (froom τ b o)) (blank_is_room 𝓛 b n o) $
    rewrite ! 1 (λ (F : Fml). ‵ F) ((λ i. to_be_freed ((is_t.0 ∙ e) i) (is_t.1 i)) ∙ right_is (block_ptr b o) n has) refl $
    take_at ! 2 $ rewrite ! 0 (λ (x : Ptr). ‵ (fat full_share (layout StartRow) (l 2) 0 (word (record { ptr = x })))) e refl $ give_at ! 2 $
    fjoin ! $ use0 𝓛 (raw (fact 𝓤 ((capped (size τ) ≡ n) × (capped (align τ) ≡ 1)))) (fact_i 𝓤 ((capped (size τ) ≡ n) × (capped (align τ) ≡ 1)) (emp 𝓤) shaped) $ join ! $
    nothing ! $ flt_i ! 1 (2 ^ 64) (lit< tt) $ feq_i ! (List Val) (vint w64 1 ∷ []) (vint w64 1 ∷ []) refl $ fjoin ! $ fjoin ! $
    flt_i ! n (2 ^ 64) fits $ feq_i ! (List Val) (vint w64 n ∷ []) (vint w64 n ∷ []) refl $ fjoin ! $ fjoin ! $
    feq_i ! (List Val) (vptr b o ∷ []) (vptr b o ∷ []) refl $ fjoin ! $ move ! (2 ∷ 0 ∷ []) $ fjoin ! $
    nothing ! $ move ! (3 ∷ 0 ∷ []) $ join ! $ join ! $ join ! $ use1 𝓛 (raw (G.pre z)) (id⊢ 𝓤 _) $ first ! $ blocks ! $
    calls_at_last ! (framed 𝓤 𝓛.H 𝓜 𝓣) G (met 𝓤 𝓛 𝓜 𝓡 (code.calls-std_heap::GlobalAllocator::deallocate 𝓡.env wired)) z
    (and_then ! (get ! refl) (and_then ! (get_in ! (fld ! refl (stop !)) (sub ! 0 refl (whole !))) (and_then ! (get ! refl) (and_then ! (lit ! tt) (no_more !))))) (λ v.
    use1 𝓛 (later (some (λ (u : Unit {0}). ((‵ (flft κ q) ⊛ ‵ ftrue) ⊛ ‵ (unit.own_val u (v ∷ []))) ⊛
    some (λ (ws : Unit {0} × (Unit {0} × (Unit {0} × (Unit {0} × Unit {0})))). ‵ (lasts g.ended z.0.0 z.0.3 ws) ⊛ ‵ ftrue)))) (id⊢ 𝓤 _) $
    await ! tt $ pick ! (λ u. split ! $ split ! $ move ! (1 ∷ []) $ feq_l ! (λ is_unit.
    lands_last ! refl (subst (λ (x : Val). T (has_ty ty_unit x) × WT x) (sym (ap only is_unit)) (tt, tt)) $ exec ! 𝓣.C 𝓣.Λ (env code.Mir.locals l) code.Mir.t-2 (at_ret _ (W.post y)) $
    sets ! (of_opd ! (unit_lit !)) refl (tt, tt) $ returns ! (look_at ! 0 refl) $ free_all ! refl $ keep ! (0 ∷ []) $
    suffices ! _ (ends_at 𝓛 f.ended stayed c y vunit tt (tt, (tt, (tt, (tt, (tt, tt))))) (tt, (tt, (tt, (tt, (tt, tt)))))) $
    feq_i ! (List Val) (vunit ∷ []) (vunit ∷ []) refl $ nothing ! $ nothing ! $ fjoin ! $ nothing ! $ fjoin ! $ nothing ! $ fjoin ! $ nothing ! $ fjoin ! $ nothing ! $ fjoin ! $ join ! $
    move ! (1 ∷ 0 ∷ []) $ join ! $ nothing ! $ move ! (1 ∷ 0 ∷ []) $ done !))))))))))
