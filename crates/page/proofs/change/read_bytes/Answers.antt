use Rattle.std.proofs.Common.{cond, [], ap, refl, sym, ◌∙◌}
use Rattle.mvs_model.specs.Replies.{bytes_at}
use Rattle.mvs_job.proofs.Resolved.{place_read}
use Rattle.mvs_model.proofs.Tests.{true_false}
use Rattle.page.proofs.GrantedPlaces.{all_where_granted, none_where_not}
use Rattle.page.proofs.change.read_bytes.Goals as goal

pub returns-in-Some : goal.returns-in-Some
returns-in-Some c =
    let st = c.args.job.now.state in
    let p = c.args.place in
    place_read st p c.in-Some.bytes.now c.in-Some.ensures.len (rw (c.step.ensures.state) at c.in-Some.ensures.bytes)
    ∙ sym (ap (λ b. cond b (bytes_at st p.addr p.len) []) (all_where_granted st p ((rw (c.step.ensures.state) at c.in-Some.ensures.granted).0 refl)))

pub returns-in-None : goal.returns-in-None
returns-in-None c =
    let st = c.args.job.now.state in
    let p = c.args.place in
    sym (ap (λ b. cond b (bytes_at st p.addr p.len) []) (none_where_not st p (λ h. true_false (sym ((rw (c.step.ensures.state) at c.in-None.ensures.granted).1 h)))))
