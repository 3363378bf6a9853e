-- `mvs_lend_bytes` lends bytes of the session behind the pointer of a handle for all the time that the `&mut` has left. Assumes `Logic`.
use Rattle.std.proofs.Common.{ℕ, List, [], ◌∷◌, ◌+◌, Option, refl, sym, ap, subst, lit<}
use mir.Syntax.{named, w32}
use mir.Val.{Val, vptr, vint}
use base.Logic.{emp, id⊢}
use base.Fml.{ftrue, flft, fres, fhide}
use borrow.Rule.Reshare.{ref_Share}
use types.Kit.{‵, raw, ◌⊛◌, some as some_of, later, await, at_ret, ◌$◌, ◌∵◌, !, qed, by, move, keep, drop, split, join, pick, fsplit, fjoin, feq_i, feq_l, flt_l, rewrite, use0, use1, use2}
use types.Run.{stop, fld, of_opd, lit, bin, load, look, addr, first, blocks, branches, skips, exec, no_more, and_then, returns, returns_within, enter}
use types.ByLocal.{alloc_all, pass_all, free_all, look_at, get, through, sets, sets_last, lands_as, env}
use contract.Monad.{fact, fact_i}
use contract.Running.{tables}
use denote.Builtin.{u32}
use denote.Exit.{yes, no}
use denote.Memory.{hidden_shr}
use denote.Opens.{unhide, hide}
use denote.Plain.{uint_Makes, uint_vals, uint_Tells}
use denote.RattleType.{RattleType}
use denote.RawPtr.{Ptr, block_ptr, null_ptr, tests_null}
use denote.Ref.{Bor, MutRef, mut_vals, mut_Tells}
use denote.Signature.{plain, named_lft}
use denote.Steps.{nothing, owned, heard, only}
use denote.Struct.Lending.{lent_out}
use denote.Triple.Call.{calls_at}
use denote.Triple.Clauses.{Lasts, lasts}
use denote.Triple.Spec.{triple_of}
use denote.Triple.Table.{framed}
use denote.Triple.Walked.{Stays, stay_dropped, gave_ref, Goes-spent_ref, Goes-dropped, Goes-gave_ref, walk_of}
use Rattle.std.proofs.raw_atomic.Walks.{proved, leaves}
use Rattle.mvs_c.specs.Lending.{AnswersLend, IsLeft, LendsAny}
use Rattle.mvs_c.specs.Opens.{OpenValue}
use Rattle.mvs_c.proofs.Handles.{Row}
use Rattle.mvs_c.proofs.Shown.{Shown, Words, held, lent, shown_law, shares_at, left_says, shows_at, pointer_in, pointer_out, on_lent}
use Rattle.mvs_c.specs.contracts.lend.LentBytes as lent_type
use Rattle.mvs_c.specs.declared.lend.LentBytes.{LentBytes as Lent}
use Rattle.mvs_c.specs.contracts.handle.Handle as handle
use Rattle.mvs_c.specs.contracts.lend.lend as g
use Rattle.mvs_c.proofs.lend.lend.Met.{met}
use Rattle.mvs_c.specs.contracts.lend.mvs_lend_bytes as f
use Rattle.mvs_c.proofs.lend.mvs_lend_bytes.Statement.{statement}
use Rattle.mvs_c.proofs.lend.mvs_lend_bytes.Code as code

abbrev stayed : Stays f.ended.signature.params f.ended.kept
stayed = (stay_dropped _ no, (stay_dropped _ yes, (gave_ref (1 ∷ []) tt (plain (λ κs. lent_type.the_row (named_lft 2 0 tt κs))), tt)))

pub mvs_lend_bytes_spec : {M : Type 1} → statement M
mvs_lend_bytes_spec 𝓤 𝓛 𝓜 𝓡 wired =
    let H = 𝓛.H in let 𝓣 = tables 𝓤 H 𝓜 𝓡 𝓡.env in let c = f.clauses 𝓛 𝓜.mem 𝓡.returns in let W = walk_of 𝓛 f.ended stayed c in let fn = code.function in
    proved 𝓛 f.ended stayed c 𝓜 𝓡
    (Goes-spent_ref 𝓛 2 (0 ∷ []) tt (plain (λ _. Row)), (Goes-dropped 𝓛 2 (plain (λ _. u32)) yes (λ κs x w. refl), (Goes-gave_ref 𝓛 2 1 tt (plain (λ κs. lent_type.the_row (named_lft 2 0 tt κs))), tt)))
    f.Key.name fn (code.unfolded 𝓤 H 𝓜 𝓡 wired)
    (λ κs. (mut_vals, (uint_vals w32, (mut_vals, tt)))) (λ κs. (mut_Tells (named 0) κs.0 Row, (uint_Tells w32, (mut_Tells (named 1) κs.1.0 (lent_type.the_row (named_lft 2 0 tt κs)), tt)))) (λ κs qs bounds a _ are.
    let κ = κs.0 in let q = qs.0 in let κ' = κs.1.0 in let q' = qs.1.0 in
    let r = a.0 in let n = a.1.0 in let t = a.1.1.0 in let b = r.ref_ptr.0 in let o = r.ref_ptr.1 in let d = r.now in
    let LentRow : RattleType = lent_type.the_row (named_lft 2 0 tt κs) in
    let y : W.Ghost = ((κs, qs, bounds, a, (mut_vals r, (uint_vals w32 n, (mut_vals t, tt)))), tt) in
    let S : Ptr → _ = λ p. ‵ (hidden_shr Words κ (p, tt) b o) in
    let Told : Lent → ℕ → Type 0 = λ w status. AnswersLend d.«open» n t.now.bytes.now w.bytes.now status in
    let small = are.1.0.1 in
    qed 𝓛 (((‵ (flft κ q) ⊛ (‵ (flft κ' q') ⊛ ‵ ftrue)) ⊛ (‵ ((MutRef (named 0) κ Row).own_val r (mut_vals r)) ⊛ (‵ (u32.own_val n (uint_vals w32 n)) ⊛ (‵ ((MutRef (named 1) κ' LentRow).own_val t (mut_vals t)) ⊛ ‵ ftrue)))) ∷ ‵ ftrue ∷ []) ∵
    split ! $ split ! $ move ! (1 ∷ []) $ split ! $ move ! (3 ∷ []) $ split ! $ move ! (1 ∷ []) $ split ! $ move ! (1 ∷ []) $ split ! $ keep ! (3 ∷ 6 ∷ 2 ∷ 0 ∷ 4 ∷ []) $
    -- [the handle; its token; the address; the other reference; its token]
    enter ! _ _ _ _ _ $ alloc_all ! (λ l. pass_all ! refl ((tt, tt), ((tt, record { fits = small }), ((tt, tt), tt))) $
    fsplit ! $ drop ! $ use2 𝓛 (later (‵ (hidden_shr Shown κ d b o) ⊛ (‵ (fres r.ghost_name (Row.coded.code d)) ⊛ ‵ (flft κ q))))
    (ref_Share 𝓛 Shown b o r.ghost_name d shown_law.shr_laws κ q (shares_at 𝓛 κ)) $ await ! tt $ split ! $ move ! (1 ∷ []) $ split ! $ move ! (2 ∷ []) $
    use1 𝓛 (S d.at ⊛ ‵ (fhide (lent d.at d.«open» κ))) (lent_out 𝓛 handle.struct handle.the_codes handle.the_heap held κ d b o) $ split ! $
    move ! (2 ∷ []) $ use1 𝓛 (‵ (IsLeft r)) (left_says 𝓛 r) $ move ! (2 ∷ []) $ unhide ! $
    -- [what is lent; what says how the handle ends; a `&` to the pointer; the token; the address; the other reference; its token]
    on_lent ! d.at d.«open» κ
    (λ e none. rewrite ! 1 S e refl $ move ! (1 ∷ 2 ∷ []) $
    pointer_in ! tt null_ptr b (o + 0) (shows_at 𝓛 κ null_ptr b o) (λ _.
    sets ! (of_opd ! (load ! (through ! refl (fld ! refl (stop !))) (look ! 1 refl))) refl (tt, record { fits = lit< tt }) $
    pointer_out ! tt null_ptr b (o + 0) $
    sets ! (of_opd ! (get ! refl)) refl (tt, record { fits = lit< tt }) $
    sets ! (bin ! (get ! refl) (lit ! tt) tt) refl (tt, tt) $
    first ! $ branches ! (get ! refl)
    (λ is_null. sets ! (of_opd ! (lit ! tt)) refl (tt, record { fits = lit< tt }) $
    returns_within ! (W.post y) refl (look_at ! 0 refl) $ free_all ! refl $
    -- [the token; a `&` to the pointer; what says how the handle ends; the address; the other reference; its token]
    move ! (4 ∷ []) $ fsplit ! $ drop ! $ fsplit ! $ use1 𝓛 (‵ (fres t.ghost_name (LentRow.coded.code t.now))) (𝓛.names.obs-res t.ghost_name (LentRow.coded.code t.now)) $ fjoin ! $
    -- [what says how the other ends; the token; a `&` to the pointer; how the handle ends; the address; the other token]
    use0 𝓛 (raw (fact 𝓤 (Told t.now 20))) (fact_i 𝓤 (Told t.now 20) (emp 𝓤) (subst (λ (x : Option OpenValue). AnswersLend x n t.now.bytes.now t.now.bytes.now 20) (sym none) (refl, refl))) $ move ! (4 ∷ 0 ∷ []) $ join ! $
    -- [how the handle ends, the fact; how the other ends; the token; a `&`; the address; the other token]
    owned ! u32 _ (uint_Makes 𝓛 w32) 20 _ (refl, lit< tt) $
    nothing ! $ move ! (3 ∷ 0 ∷ []) $ fjoin ! $ nothing ! $ fjoin ! $ nothing ! $ fjoin ! $
    -- [what is had of the parameters; the result; the ensures; the token; a `&`; the address; the other token]
    nothing ! $ move ! (7 ∷ 0 ∷ []) $ join ! $ move ! (4 ∷ 0 ∷ []) $ join ! $
    keep ! (0 ∷ 1 ∷ 2 ∷ 3 ∷ []) $
    by ! (leaves 𝓛 f.ended stayed c y (vint w32 20) 20 (tt, (tt, (t.now, tt))) (tt, (tt, (tt, tt)))))
    (λ is_not. absurd is_not)))
    (λ b' o' x e some may. let v : Val = vptr b' o' in let shown : Bor OpenValue = record { ref_ptr = (b', o'); now = x } in
    hide ! $ feq_i ! (List Val) (v ∷ []) (v ∷ []) refl $ fjoin ! $
    rewrite ! 2 S e refl $ move ! (2 ∷ 3 ∷ []) $
    pointer_in ! tt (block_ptr b' o') b (o + 0) (shows_at 𝓛 κ (block_ptr b' o') b o) (λ _.
    sets ! (of_opd ! (load ! (through ! refl (fld ! refl (stop !))) (look ! 1 refl))) refl (tt, tt) $
    pointer_out ! tt (block_ptr b' o') b (o + 0) $
    sets ! (of_opd ! (get ! refl)) refl (tt, tt) $
    sets ! (bin ! (get ! refl) (lit ! tt) (tests_null (block_ptr b' o') may)) refl (tt, tt) $
    first ! $ branches ! (get ! refl)
    (λ is_null. absurd is_null)
    (λ is_not. skips ! $ exec ! 𝓣.C 𝓣.Λ (env (code.function).locals l) code.Mir.t-5 (at_ret (env (code.function).locals l) (W.post y)) $
    first ! $ blocks ! $
    sets ! (of_opd ! (get ! refl)) refl (tt, tt) $ sets ! (of_opd ! (get ! refl)) refl (tt, tt) $
    sets_last ! (addr ! (through ! refl (stop !))) refl (tt, tt) $
    exec ! 𝓣.C 𝓣.Λ (env (code.function).locals l) code.Mir.t-6 (at_ret (env (code.function).locals l) (W.post y)) $
    sets ! (of_opd ! (get ! refl)) refl (tt, tt) $
    sets ! (of_opd ! (get ! refl)) refl (tt, record { fits = small }) $
    sets ! (addr ! (through ! refl (stop !))) refl (tt, tt) $
    -- [the token; a `&` to the pointer; the `&` to the session; how the handle ends; the address; the other reference; its token]
    let G = triple_of 𝓛 g.signature (g.spec 𝓛 𝓜.mem 𝓡.returns) in
    let z : G.Ghost = ((κs, qs, bounds, (shown, (n, (t, tt))), (v ∷ [], (uint_vals w32 n, (mut_vals t, tt)))), tt) in
    nothing ! $ move ! (6 ∷ 0 ∷ []) $ join ! $ move ! (5 ∷ 0 ∷ []) $ join ! $ move ! (3 ∷ 0 ∷ []) $ join ! $
    -- [the arguments; the token; a `&` to the pointer; how the handle ends; the other token]
    nothing ! $ move ! (5 ∷ 0 ∷ []) $ join ! $ move ! (2 ∷ 0 ∷ []) $ join ! $ join ! $ nothing ! $ move ! (1 ∷ 0 ∷ []) $ use2 𝓛 (raw (G.pre z)) (id⊢ 𝓤 _) $
    calls_at ! (framed 𝓤 𝓛.H 𝓜 (tables 𝓤 𝓛.H 𝓜 𝓡 𝓡.env)) G (met 𝓤 𝓛 𝓜 𝓡 (code.calls-mvs_c::lend::lend 𝓡.env wired)) z
    (and_then ! (get ! refl) (and_then ! (get ! refl) (and_then ! (get ! refl) (no_more !)))) (λ u.
    use1 𝓛 (later (some_of (λ (s : ℕ). ((‵ (flft κ q) ⊛ (‵ (flft κ' q') ⊛ ‵ ftrue)) ⊛ ‵ (u32.own_val s (u ∷ []))) ⊛
    some_of (λ (ws : Lasts g.ended κs (shown, (n, (t, tt)))). ‵ (lasts g.ended κs (shown, (n, (t, tt))) ws) ⊛ raw (fact 𝓤 (LendsAny x n t.now.bytes.now ws.1.1.0.bytes.now s)))))) (id⊢ 𝓤 _) $
    await ! tt $ pick ! (λ s. split ! $ split ! $ move ! (1 ∷ []) $ fsplit ! $ feq_l ! (λ is. flt_l ! (λ fits.
    -- [the tokens; what is said; a `&` to the pointer; how the handle ends]
    lands_as ! (ap only is) refl (tt, record { fits = fits }) $
    returns ! (look_at ! 0 refl) $ free_all ! refl $
    move ! (1 ∷ []) $ pick ! (λ ws. split ! $ fsplit ! $ drop ! $ fsplit ! $ drop ! $ fsplit ! $ move ! (2 ∷ []) $ heard ! _ (λ answered.
    -- [how the other ends; nothing; the tokens; a `&` to the pointer; how the handle ends]
    let w : Lent = ws.1.1.0 in
    use0 𝓛 (raw (fact 𝓤 (Told w s))) (fact_i 𝓤 (Told w s) (emp 𝓤) (subst (λ (x : Option OpenValue). AnswersLend x n t.now.bytes.now w.bytes.now s) (sym some) answered)) $ move ! (5 ∷ 0 ∷ []) $ join ! $
    -- [the ensures; how the other ends; nothing; the tokens; ..]
    owned ! u32 _ (uint_Makes 𝓛 w32) s _ (refl, fits) $
    move ! (2 ∷ 3 ∷ []) $ fjoin ! $ nothing ! $ fjoin ! $ nothing ! $ fjoin ! $
    -- [what is had of the parameters; the result; the ensures; the tokens; ..]
    move ! (3 ∷ []) $ keep ! (0 ∷ 1 ∷ 2 ∷ 3 ∷ []) $
    by ! (leaves 𝓛 f.ended stayed c y (vint w32 s) s (tt, (tt, (w, tt))) (tt, (tt, (tt, tt)))))))))))))))
