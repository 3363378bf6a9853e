use Rattle.std.proofs.Common.{◌≡◌, ap, ◌∙◌}
use Rattle.std.proofs.lemmas.Result.{err_from_is_err_and}
use Rattle.mvs_job.proofs.Hearing.{line_part, line_stays}
use Rattle.mvs_job.proofs.Strictly.{none_of, observes_kept, served_next, unserved_next}
use Rattle.mvs_job.proofs.strict.StrictConsumer.entry.Goals as goal

pub returns-in_err-entry-clause-accepted : goal.returns-in_err-entry-clause-accepted
returns-in_err-entry-clause-accepted g c first mid history e is follows seen observed known =
    let self = c.args.self.now in
    let heard_by = line_part mid self (λ s. s.consumer.now) (λ old job t request refusal left new. g.C.Observer.heard old.consumer.now job t request refusal left new.consumer.now × (new.hearer ≡ old.hearer) × (new.all_served ≡ old.all_served)) g.C.Observer.heard (λ job t request refusal left h. h.0) e.before c.args.line.now c.args.line_event.now c.args.walk.now observed in
    let hearer = line_stays mid self (λ s. s.hearer) (λ old job t request refusal left new. g.C.Observer.heard old.consumer.now job t request refusal left new.consumer.now × (new.hearer ≡ old.hearer) × (new.all_served ≡ old.all_served)) (λ job t request refusal left h. h.1) e.before c.args.line.now c.args.line_event.now c.args.walk.now observed in
    let all = line_stays mid self (λ s. s.all_served) (λ old job t request refusal left new. g.C.Observer.heard old.consumer.now job t request refusal left new.consumer.now × (new.hearer ≡ old.hearer) × (new.all_served ≡ old.all_served)) (λ job t request refusal left h. h.2) e.before c.args.line.now c.args.line_event.now c.args.walk.now observed in
    let name = ap (λ h. h.ghost_name) hearer ∙ known.0 in
    let o = observes_kept first.all_served mid.all_served self.all_served (g.H.SkipObserver.heard first.hearer.now) (g.H.SkipObserver.heard mid.hearer.now) (g.H.SkipObserver.heard self.hearer.now) history all (ap (λ h. g.H.SkipObserver.heard h.now) hearer) known.2 in
    let p = err_from_is_err_and c.from_residual.result c.from_residual.ensures.1 in
    let a = c.in_err-entry.ensures.accepted first.consumer.now mid.consumer.now history e is follows seen heard_by known.1 in
    rw (p.1, p.2) (a.0, (name, o))

pub returns-in-Some-clause-accepted : goal.returns-in-Some-clause-accepted
returns-in-Some-clause-accepted g c first mid history e is follows seen observed known =
    let self = c.args.self.now in
    let heard_by = line_part mid self (λ s. s.consumer.now) (λ old job t request refusal left new. g.C.Observer.heard old.consumer.now job t request refusal left new.consumer.now × (new.hearer ≡ old.hearer) × (new.all_served ≡ old.all_served)) g.C.Observer.heard (λ job t request refusal left h. h.0) e.before c.args.line.now c.args.line_event.now c.args.walk.now observed in
    let hearer = line_stays mid self (λ s. s.hearer) (λ old job t request refusal left new. g.C.Observer.heard old.consumer.now job t request refusal left new.consumer.now × (new.hearer ≡ old.hearer) × (new.all_served ≡ old.all_served)) (λ job t request refusal left h. h.1) e.before c.args.line.now c.args.line_event.now c.args.walk.now observed in
    let all = line_stays mid self (λ s. s.all_served) (λ old job t request refusal left new. g.C.Observer.heard old.consumer.now job t request refusal left new.consumer.now × (new.hearer ≡ old.hearer) × (new.all_served ≡ old.all_served)) (λ job t request refusal left h. h.2) e.before c.args.line.now c.args.line_event.now c.args.walk.now observed in
    let name = ap (λ h. h.ghost_name) hearer ∙ known.0 in
    let o = observes_kept first.all_served mid.all_served self.all_served (g.H.SkipObserver.heard first.hearer.now) (g.H.SkipObserver.heard mid.hearer.now) (g.H.SkipObserver.heard self.hearer.now) history all (ap (λ h. g.H.SkipObserver.heard h.now) hearer) known.2 in
    let a = c.in_ok-entry.ensures.accepted first.consumer.now mid.consumer.now history e is follows seen heard_by known.1 in (
      a.0,
      (
        name,
        a.1,
        unserved_next first.all_served self.all_served _ _ history c.args.line_number c.args.line.now c.args.walk.now c.args.line_event.now e c.why_of.result is (c.why_of.ensures.served c.args.line_number) (c.why_of.ensures.skipped c.args.line_number) o _ c.in-Some.why c.in-Some.is c.on_skipped.ensures,
      ),
    )

pub returns-in_default-clause-accepted : goal.returns-in_default-clause-accepted
returns-in_default-clause-accepted g c first mid history e is follows seen observed known =
    let self = c.args.self.now in
    let heard_by = line_part mid self (λ s. s.consumer.now) (λ old job t request refusal left new. g.C.Observer.heard old.consumer.now job t request refusal left new.consumer.now × (new.hearer ≡ old.hearer) × (new.all_served ≡ old.all_served)) g.C.Observer.heard (λ job t request refusal left h. h.0) e.before c.args.line.now c.args.line_event.now c.args.walk.now observed in
    let hearer = line_stays mid self (λ s. s.hearer) (λ old job t request refusal left new. g.C.Observer.heard old.consumer.now job t request refusal left new.consumer.now × (new.hearer ≡ old.hearer) × (new.all_served ≡ old.all_served)) (λ job t request refusal left h. h.1) e.before c.args.line.now c.args.line_event.now c.args.walk.now observed in
    let all = line_stays mid self (λ s. s.all_served) (λ old job t request refusal left new. g.C.Observer.heard old.consumer.now job t request refusal left new.consumer.now × (new.hearer ≡ old.hearer) × (new.all_served ≡ old.all_served)) (λ job t request refusal left h. h.2) e.before c.args.line.now c.args.line_event.now c.args.walk.now observed in
    let name = ap (λ h. h.ghost_name) hearer ∙ known.0 in
    let o = observes_kept first.all_served mid.all_served self.all_served (g.H.SkipObserver.heard first.hearer.now) (g.H.SkipObserver.heard mid.hearer.now) (g.H.SkipObserver.heard self.hearer.now) history all (ap (λ h. g.H.SkipObserver.heard h.now) hearer) known.2 in
    let a = c.in_ok-entry.ensures.accepted first.consumer.now mid.consumer.now history e is follows seen heard_by known.1 in (
      a.0,
      (
        name,
        a.1,
        served_next first.all_served self.all_served _ _ history c.args.line_number c.args.line.now c.args.walk.now c.args.line_event.now e c.why_of.result is (c.why_of.ensures.served c.args.line_number) (c.why_of.ensures.skipped c.args.line_number) o (none_of c.why_of.result c.in_default.not-Some),
      ),
    )
