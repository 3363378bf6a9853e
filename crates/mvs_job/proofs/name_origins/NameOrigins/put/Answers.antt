use Rattle.std.proofs.Common.{◌≡◌, ℕ, List, Result, Ok, Err, sym, ap, subst, ◌∙◌}
use Rattle.std.specs.Prelude.{IsErrAnd, MatchResult, OnErr}
use Rattle.std.specs.FinMap as map
use Rattle.mvs_model.specs.declared.name.Name.{Name}
use Rattle.mvs_model.specs.Name.{name_cmp}
use Rattle.job_script.proofs.Named.{mapped_ok, set_entries}
use Rattle.mvs_job.specs.NamedAddress.{NameOrigins}
use Rattle.mvs_job.specs.NameOrder.{HasLatest}
use Rattle.mvs_job.proofs.InOrder.{former_stay, one_is_set}
use Rattle.mvs_job.proofs.name_origins.NameOrigins.put.Goals as goal

pub returns : goal.returns
returns c =
    let number_set = λ (m : NameOrigins). map.insert m c.args.name c.args.number in
    let set = rw (mapped_ok c.insert.result c.map_err.result _ _ c.map_err.ensures.cases c.in_ok-map_err.was) at c.insert.ensures.updates in
    set_entries _ _ c.args.name c.args.number (λ q. set.0 q) ∙ ap number_set (c.self.view_is ∙ c.forget_former.ensures)

pub invariant_of-self-2 : goal.invariant_of-self-2
invariant_of-self-2 c =
    let set = rw (mapped_ok c.insert.result c.map_err.result _ _ c.map_err.ensures.cases c.in_ok-map_err.was) at c.insert.ensures.updates in
    let old : NameOrigins = map.from_entries {R = name_cmp} c.self.inside.numbers.entries in
    let later : NameOrigins = map.from_entries {R = name_cmp} c.insert.new.self.entries in
    let order : List (Name × ℕ) = c.self.inside.order.items in
    let new : List (Name × ℕ) = c.put_in_order.new.order.items in
    let more = c.in_ok-put_in_order.ensures.ok in
    (c.in_ok-put_in_order.ensures.sorted, one_is_set old order c.args.name c.args.number new more c.self.invariant.1 later (set_entries c.self.inside.numbers.entries c.insert.new.self.entries c.args.name c.args.number (λ q. set.0 q)))

pub invariant_of-self-in_err-map_err : goal.invariant_of-self-in_err-map_err
invariant_of-self-in_err-map_err c =
    let old : NameOrigins = map.from_entries {R = name_cmp} c.self.inside.numbers.entries in
    let order : List (Name × ℕ) = c.self.inside.order.items in
    let new : List (Name × ℕ) = c.put_in_order.new.order.items in
    let more = c.in_ok-put_in_order.ensures.ok in
    let same = failed c.insert.result c.map_err.result _ _ _ c.map_err.ensures.cases c.in_err-map_err.was c.insert.ensures.err in
    (c.in_ok-put_in_order.ensures.sorted, subst (λ (m : NameOrigins). HasLatest m new) (ap (λ es. map.from_entries {R = name_cmp} es) (sym same)) (former_stay old order c.args.name c.args.number new more c.self.invariant.1))
  where
    -- what a call does if it fails, if it failed by `map_err`
    failed : {T E D : Type 0} (r : Result T E) (s : Result T D) (Q : E → D → Type 0) (x : D) (P : Type 0) → MatchResult r (λ y. s ≡ Ok y) (λ e. IsErrAnd s (Q e)) → s ≡ Err x → OnErr r P → P
    failed (Ok y) s Q x P same is h = absurd (let e : Ok y ≡ Err x = sym same ∙ is in cc)
    failed (Err e) s Q x P never is h = h
