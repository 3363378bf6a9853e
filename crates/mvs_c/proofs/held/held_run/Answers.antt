-- The first doubleword at or after an address is the least whose address is not less.
use Rattle.std.proofs.Common.{◌≡◌, ℕ, ◌+◌, ◌-◌, ◌/◌, ◌<◌, ◌≤◌, arith, subst}
use Rattle.mvs_c.specs.Held.{EndsRun}
use Rattle.mvs_c.proofs.held.held_run.Goals as goal

pub returns : goal.returns
returns c =
    let h = c.in-Some.ensures in
    let run = c.run_end-end.ensures.run in
    let least : (c.get.result + 7) / 8 ≤ c.in-Some.first = h.0 in
    let some : c.in-Some.first < c.run_end-end.result = run.some in
    let end : c.run_end-end.result ≡ c.in-Some.first + (c.run_end-end.result - c.in-Some.first) = omega (arith, some) in
    record {
      placed = omega (arith, least, c.get.ensures.value);
      begins = h.2;
      ends = subst (λ (n : ℕ). EndsRun c.args.machine.now.state c.in-Some.first n c.in-Some.holder) end run;
      low = omega (arith, some, c.run_end-end.ensures.low);
      none_before = λ d inside at low. let from : (c.get.result + 7) / 8 ≤ d = omega (arith, at, c.get.ensures.value) in h.3 d inside from low;
    }
