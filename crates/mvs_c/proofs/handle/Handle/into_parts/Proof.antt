-- `into_parts` tells a null pointer from that of a box, whose parts it makes. Assumes `Logic`.
use Rattle.std.proofs.Common.{◌≡◌, List, [], ◌∷◌, ◌++◌, Option, Some, None, MatchOption, refl, sym, ap, subst, ◌∙◌, lit<}
use mir.Val.{Val, vcons, vnil}
use base.Logic.{SProp, ent, emp, id⊢}
use base.Fml.{ftrue}
use prog.Wp.{WpFn}
use types.Match.{live}
use types.Kit.{‵, ◌⊛◌, at_ret, ◌$◌, ◌∵◌, !, qed, by, move, keep, drop, split, fsplit, fjoin, suffices, use0, use1, raw}
use types.Run.{stop, fld, of_opd, lit, bin, first, branches, skips, exec, no_more, and_then, returns, returns_within, enter}
use types.ByLocal.{alloc_all, pass_all, free_all, look_at, get, get_in, sets, env}
use types.Part.{agg, sub, whole}
use contract.Monad.{fact, fact_i}
use contract.Running.{tables}
use denote.Exit.{yes}
use denote.RattleType.{RattleType, owns}
use denote.Signature.{types_at, plain}
use denote.RawPtr.{Ptr, block_ptr, null_ptr, tests_null}
use denote.Steps.{nothing}
use denote.Triple.Walked.{Stays, stay_dropped, walk_of}
use Rattle.core.specs.contracts.option.Option as option
use Rattle.core.proofs.alloc.Calls.{Goes-blank, handle_tells}
use Rattle.core.proofs.option.Made.{Some-of, none_of}
use Rattle.std.proofs.raw_atomic.Walks.{proved_at, leaves}
use Rattle.std.specs.contracts.alloc.Global as heap
use Rattle.std_alloc.proofs.ResultValues.{and_tt}
use Rattle.std_alloc.proofs.BoxSteps.Form.{D, B, box_typed}
use Rattle.std_alloc.proofs.BoxSteps.Form as box
use Rattle.std_alloc.proofs.BoxSteps.Steps.{box_in}
use Rattle.mvs_c.proofs.Handles.{E, Row, Parts, word, good, handle_out, on_owned}
use Rattle.mvs_c.specs.contracts.handle.Handle.into_parts as f
use Rattle.mvs_c.proofs.handle.Handle.into_parts.Statement.{statement}
use Rattle.mvs_c.proofs.handle.Handle.into_parts.Code as code

abbrev Out : RattleType
Out = option.the_row Parts

abbrev stayed : Stays f.ended.signature.params f.ended.kept
stayed = (stay_dropped (plain (λ _. Row)) yes, (stay_dropped (plain (λ _. heap.the_row)) yes, tt))

pub into_parts_spec : {M : Type 1} → statement M
into_parts_spec 𝓤 𝓛 𝓜 𝓡 wired =
    let H = 𝓛.H in
    let 𝓣 = tables 𝓤 H 𝓜 𝓡 𝓡.env in
    let c = f.clauses 𝓛 𝓜.mem 𝓡.returns in
    let fn = code.function in
    proved_at 𝓛 f.ended stayed c 𝓜 𝓡 (Goes-blank 𝓛 0 (plain (λ _. Row)) yes (λ κs x w. tt), (Goes-blank 𝓛 0 (plain (λ _. heap.the_row)) yes (λ κs x w. tt), tt))
    f.Key.name fn (code.unfolded 𝓤 H 𝓜 𝓡 wired) (λ z are.
    let d = z.0.3.0 in let a = z.0.3.1.0 in
    let Post : Val → SProp 𝓤 = (walk_of 𝓛 f.ended stayed c).post z in
    let Run : List Val → SProp 𝓤 = λ us. WpFn 𝓤 H 𝓣.C 𝓣.Λ fn us Post in
    let Told : Option Parts.Denot → Type 0 = λ r. MatchOption r (d.«open» ≡ None) (λ made. d.«open» ≡ Some made.value) in
    qed 𝓛 ((‵ ftrue ⊛ ‵ (owns (types_at f.ended.signature.params z.0.0) z.0.3 z.0.4)) ∷ ‵ ftrue ∷ []) ∵
    split ! $ move ! (1 ∷ []) $ fsplit ! $ handle_out ! d z.0.4.0 (λ pointed.
    move ! (1 ∷ []) $ fsplit ! $ handle_tells E.al ! a z.0.4.1.0 (λ h spelt fits.
    let runs : (p : Ptr) → d.at ≡ p → ent 𝓤 (Run (word p ∷ h ∷ [])) (Run (z.0.4.0 ++ (z.0.4.1.0 ++ []))) = λ p e.
    subst (λ (us : List Val). ent 𝓤 (Run (word p ∷ h ∷ [])) (Run us)) (sym (λ i. (pointed ∙ ap (λ (q : Ptr). word q ∷ []) e) i ++ (spelt i ++ []))) (id⊢ 𝓤 (Run (word p ∷ h ∷ []))) in
    -- [the allocator; what the handle owns; ..]
    move ! (2 ∷ 0 ∷ []) $ keep ! (0 ∷ 1 ∷ []) $ on_owned ! d.at d.«open»
    (λ e none. suffices ! (Run (word null_ptr ∷ h ∷ [])) (runs null_ptr e) $ drop ! $
    enter ! 𝓣.C 𝓣.Λ fn (word null_ptr ∷ h ∷ []) Post $ alloc_all ! (λ l. pass_all ! refl (good null_ptr, (fits, tt)) $
    sets ! (of_opd ! (get_in ! (fld ! refl (stop !)) (sub ! 0 refl (whole !)))) refl (tt, record { fits = lit< tt }) $
    sets ! (bin ! (get ! refl) (lit ! tt) tt) refl (tt, tt) $
    first ! $ branches ! (get ! refl)
    (λ is_null. sets ! (agg ! (and_then ! (lit ! tt) (no_more !))) refl (tt, (record { fits = lit< tt }, tt)) $
    use0 𝓛 (raw (fact 𝓤 (Told None))) (fact_i 𝓤 (Told None) (emp 𝓤) none) $
    use0 𝓛 (‵ (Out.own_val None (live 0 vnil ∷ []))) (none_of 𝓛 Parts) $ nothing ! $ nothing ! $ fjoin ! $ nothing ! $ fjoin ! $ nothing ! $
    returns_within ! Post refl (look_at ! 0 refl) $ free_all ! refl $ keep ! (0 ∷ 1 ∷ 2 ∷ 3 ∷ []) $
    by ! (leaves 𝓛 f.ended stayed c z (live 0 vnil) None (tt, (tt, tt)) (tt, (tt, tt))))
    (λ is_not. absurd is_not)))
    (λ b o x e some may.
    let p : Ptr = block_ptr b o in let out : Val = box.word E h b o in let typed = box_typed E h b o fits in
    let boxed : D E = record { ptr = p; alloc = a; value = x } in
    let made : Parts.Denot = record { ptr = p; alloc = a; value = x } in
    suffices ! (Run (word p ∷ h ∷ [])) (runs p e) $
    enter ! 𝓣.C 𝓣.Λ fn (word p ∷ h ∷ []) Post $ alloc_all ! (λ l. pass_all ! refl (good p, (fits, tt)) $
    sets ! (of_opd ! (get_in ! (fld ! refl (stop !)) (sub ! 0 refl (whole !)))) refl (tt, tt) $
    sets ! (bin ! (get ! refl) (lit ! tt) (tests_null p may)) refl (tt, tt) $
    first ! $ branches ! (get ! refl)
    (λ is_null. absurd is_null)
    (λ is_not. skips ! $ exec ! 𝓣.C 𝓣.Λ (env code.Mir.locals l) code.Mir.t-4 (at_ret _ Post) $
    sets ! (of_opd ! (get ! refl)) refl (tt, tt) $
    sets ! (agg ! (and_then ! (get ! refl) (and_then ! (get ! refl) (no_more !)))) refl typed $
    sets ! (agg ! (and_then ! (lit ! tt) (and_then ! (get ! refl) (no_more !)))) refl (and_tt _ typed.0, (record { fits = lit< tt }, (typed.1, tt))) $
    fsplit ! $ box_in E ! boxed b o x refl refl $ use1 𝓛 (‵ (Parts.own_val made (out ∷ []))) (id⊢ 𝓤 _) $
    use1 𝓛 (‵ (Out.own_val (Some made) (live 1 (vcons out vnil) ∷ []))) (Some-of 𝓛 Parts made out) $
    use0 𝓛 (raw (fact 𝓤 (Told (Some made)))) (fact_i 𝓤 (Told (Some made)) (emp 𝓤) some) $ nothing ! $ nothing ! $ fjoin ! $ nothing ! $ fjoin ! $ nothing ! $
    returns ! (look_at ! 0 refl) $ free_all ! refl $ keep ! (0 ∷ 1 ∷ 3 ∷ 2 ∷ []) $
    by ! (leaves 𝓛 f.ended stayed c z (live 1 (vcons out vnil)) (Some made) (tt, (tt, tt)) (tt, (tt, tt)))))))))
