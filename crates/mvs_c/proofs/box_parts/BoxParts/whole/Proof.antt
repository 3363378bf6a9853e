-- `whole` gives the two parts to the box's own maker, with what they own. Assumes `Logic`.
use Rattle.std.proofs.Common.{◌≡◌, List, [], ◌∷◌, ◌++◌, refl, sym, ap, subst}
use lib.Dec.{T}
use mir.Syntax.{Args, a_type, dcons, dnil}
use mir.Val.{Val, vptr, has_ty, WT}
use mir.MapTy.{inst_fn}
use base.Logic.{SProp, ent, id⊢}
use base.Fml.{ftrue, flft}
use prog.Wp.{WpFn}
use types.Kit.{Item, ‵, raw, ◌⊛◌, some, later, at_ret, ◌$◌, ◌∵◌, !, qed, by, move, keep, drop, split, split3, join, fsplit, fjoin, pick, suffices, use1, await, rewrite, feq_i}
use types.Run.{stop, fld, of_opd, no_more, and_then, first, blocks, exec, returns, enter}
use types.ByLocal.{alloc_all, pass_all, free_all, look_at, get, get_in, sets, lands_last, env}
use types.Part.{sub, whole}
use contract.Monad.{fact}
use contract.BorrowLft.{◌⊑◌}
use contract.Running.{tables}
use denote.Exit.{no}
use denote.RattleType.{RattleType, owns}
use denote.Signature.{types_at, plain}
use denote.RawPtr.{block_ptr}
use denote.Steps.{nothing, only}
use denote.Param.{bounded}
use denote.Triple.Clauses.{Lasts, lasts}
use denote.Triple.Spec.{triple_of}
use denote.Triple.Call.{calls_at_last}
use denote.Triple.Walked.{Stays, stay_dropped, walk_of}
use Rattle.core.proofs.alloc.Calls.{Goes-blank}
use Rattle.core.proofs.alloc.Shapes.{after}
use Rattle.core.proofs.atomic.Steps.{fm}
use Rattle.std_alloc.proofs.BoxSteps.Form.{Bx, B, R, P, box_ty, word, box_typed}
use Rattle.std_alloc.proofs.BoxSteps.Steps.{box_out, box_in}
use Rattle.std.proofs.raw_atomic.Walks.{proved_at, leaves}
use Rattle.std_alloc.specs.contracts.boxed.Box.from_raw as make
use Rattle.std_alloc.proofs.boxed.Box.from_raw.Met.{met}
use Rattle.mvs_c.specs.contracts.box_parts.BoxParts as parts
use Rattle.mvs_c.specs.contracts.box_parts.BoxParts.whole as f
use Rattle.mvs_c.specs.contracts.box_parts.BoxParts.whole.Key.{name as #self}
use Rattle.mvs_c.proofs.box_parts.BoxParts.whole.Statement.{statement}
use Rattle.mvs_c.proofs.box_parts.BoxParts.whole.Code as code

-- a machine value of a box
abbrev Good : Bx → Val → Type 0
Good E w = T (has_ty (box_ty E) w) × WT w

pub whole_spec : {M : Type 1} → statement M
whole_spec 𝓤 𝓛 𝓜 𝓡 wired T A L LA g d dx dd allocator glue glued =
    let H = 𝓛.H in
    let E : Bx = record { row = T; laws = L; al = record { row = A; laws = LA; g = g; d = d; drops = dd } } in
    let Boxed : RattleType = B E in
    let Parts : RattleType = parts.the_row (R E) (P E) g in
    let En = f.ended T A g d dx dd in
    let c = f.clauses T A g d dx dd 𝓛 𝓜.mem 𝓡.returns in
    let args : Args = bounded (a_type ∷ a_type ∷ []) (T, (A, tt)) (dcons d (dcons dx (dcons dd dnil))) in
    let fn = inst_fn args code.function in
    let stayed : Stays En.signature.params En.kept = (stay_dropped (plain (λ _. Parts)) no, tt) in
    let 𝓣 = tables 𝓤 H 𝓜 𝓡 𝓡.env in
    let Made = triple_of 𝓛 (make.signature T A g d dd) (make.spec T A g d dd 𝓛 𝓜.mem 𝓡.returns) in
    let is_made = met 𝓤 𝓛 𝓜 𝓡 (code.calls-std_alloc::boxed::Box::from_raw 𝓡.env wired) T A L LA g d dd allocator glued in
    proved_at 𝓛 En stayed c 𝓜 𝓡 (Goes-blank 𝓛 2 (plain (λ _. Parts)) no (λ κs x w. tt), tt) (#self args) fn
    (code.unfolded 𝓤 H 𝓜 𝓡 wired (T, (A, tt)) d dx dd) (λ z are.
    let κs = z.0.0 in let qs = z.0.1 in let v = z.0.3.0 in let a = v.alloc in let x = v.value in
    let Post : Val → SProp 𝓤 = (walk_of 𝓛 En stayed c).post z in
    let Run : List Val → SProp 𝓤 = λ us. WpFn 𝓤 H 𝓣.C 𝓣.Λ fn us Post in
    let tokens : Item 𝓤 = ‵ (flft κs.0 qs.0) ⊛ ‵ (flft κs.1.0 qs.1.0) ⊛ ‵ ftrue in
    let boxed : Boxed.Denot = record { ptr = v.ptr; alloc = a; value = x } in
    qed 𝓛 ((tokens ⊛ ‵ (owns (types_at En.signature.params κs) z.0.3 z.0.4)) ∷ raw ((c κs z.0.3).requires z.1) ∷ []) ∵
    -- the parts own what a box of them would
    split ! $ move ! (1 ∷ []) $ fsplit ! $ use1 𝓛 (‵ (Boxed.own_val boxed z.0.4.0)) (id⊢ 𝓤 _) $ box_out E ! boxed z.0.4.0 (λ b o h e spelt fits.
    let before : Val = word E h b o in let typed = box_typed E h b o fits in
    suffices ! (Run (before ∷ [])) (subst (λ (us : List Val). ent 𝓤 (Run (before ∷ [])) (Run us)) (sym (λ i. spelt i ++ [])) (id⊢ 𝓤 (Run (before ∷ [])))) $
    -- [the value; the right; the allocator; nothing; the tokens; that the types live]
    fjoin ! $ move ! (4 ∷ []) $ use1 𝓛 (raw (fact 𝓤 (κs.0 ⊑ T.lives)) ⊛ raw (fact 𝓤 (κs.1.0 ⊑ A.lives)) ⊛ ‵ ftrue) (id⊢ 𝓤 _) $ split3 ! $
    move ! (1 ∷ 3 ∷ []) $ join ! $ move ! (1 ∷ 0 ∷ []) $ join ! $ move ! (1 ∷ []) $ feq_i ! (List Val) (vptr b o ∷ []) (vptr b o ∷ []) refl $ fjoin ! $
    move ! (2 ∷ 0 ∷ []) $ fjoin ! $ move ! (3 ∷ 0 ∷ []) $ join ! $ join ! $
    let y : Made.Ghost = ((κs, qs, tt, (a, (block_ptr b o, tt)), (h ∷ [], (vptr b o ∷ [], tt))), x) in
    use1 𝓛 (raw (Made.pre y)) (id⊢ 𝓤 _) $
    enter ! 𝓣.C 𝓣.Λ fn (before ∷ []) Post $ alloc_all ! (λ l. pass_all ! refl (typed, tt) $
    sets ! (of_opd ! (get_in ! (fld ! refl (stop !)) (sub ! 0 refl (whole !)))) refl (tt, tt) $
    sets ! (of_opd ! (get_in ! (fld ! refl (stop !)) (sub ! 1 refl (whole !)))) refl fits $
    first ! $ blocks ! $ sets ! (of_opd ! (get ! refl)) refl fits $
    calls_at_last ! (fm 𝓛 𝓜 𝓡) Made is_made y (and_then ! (get ! refl) (and_then ! (get ! refl) (no_more !))) (λ u.
    use1 𝓛 (later (some (λ (r : Boxed.Denot). (tokens ⊛ ‵ (Boxed.own_val r (u ∷ []))) ⊛
    some (λ (ls : Lasts (make.ended T A g d dd) κs y.0.3). ‵ (lasts (make.ended T A g d dd) κs y.0.3 ls) ⊛ (raw (fact 𝓤 (r.value ≡ x)) ⊛ raw (fact 𝓤 (r.alloc ≡ a))))))) (id⊢ 𝓤 _) $
    await ! tt $
    -- [the tokens and the box; what the call tells; nothing]
    pick ! (λ r. split ! $ move ! (1 ∷ []) $ pick ! (λ _. split3 ! $ drop ! $ move ! (2 ∷ []) $ split ! $ move ! (1 ∷ []) $
    box_out E ! r (u ∷ []) (λ b' o' h' e' spelt' fits'. box_in E ! r b' o' r.value e' refl $
    let good = subst (Good E) (sym (ap only spelt')) (box_typed E h' b' o' fits') in
    rewrite ! 0 (λ (us : List Val). ‵ (Boxed.own_val r us)) (sym spelt') refl $
    lands_last ! refl good $ exec ! 𝓣.C 𝓣.Λ (env fn.locals l) (after 3 fn.body) (at_ret (env fn.locals l) Post) $
    sets ! (of_opd ! (get ! refl)) refl good $ nothing ! $ nothing ! $ fjoin ! $
    returns ! (look_at ! 0 refl) $ free_all ! refl $ keep ! (2 ∷ 0 ∷ 1 ∷ 3 ∷ []) $
    by ! (leaves 𝓛 En stayed c z u r ((tt, (tt, tt)), tt) (tt, tt)))))))))
