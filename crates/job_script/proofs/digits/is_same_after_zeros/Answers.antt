use Rattle.std.proofs.Common.{◌≡◌, ◌-◌, length, take, drop, true, false, ap, sym, ◌∙◌, arith}
use Rattle.std.specs.Prelude.{◌==◌, ◌&&◌, bytes_eq}
use Rattle.std.specs.List.{list_all}
use Rattle.job_script.proofs.SameNumbers.{same_after}
use Rattle.job_script.proofs.digits.is_same_after_zeros.Goals as goal

pub returns-then-are_zeros : goal.returns-then-are_zeros
returns-then-are_zeros c =
    let longer = c.args.longer.now in
    let shorter = c.args.shorter.now in
    let n = length longer - length shorter in
    let zeros : list_all (λ b. b == 48) (take n longer) ≡ true = ap (list_all (λ b. b == 48)) (sym c.split_at.ensures.front) ∙ sym c.are_zeros.ensures ∙ c.if-are_zeros.true in
    c.eq.ensures ∙ ap (λ ds. bytes_eq ds shorter) c.split_at.ensures.back ∙ ap (λ b. b && bytes_eq (drop n longer) shorter) (sym zeros) ∙ sym (same_after n longer shorter (omega arith) c.requires.longer c.requires.shorter)

pub returns-else-are_zeros : goal.returns-else-are_zeros
returns-else-are_zeros c =
    let longer = c.args.longer.now in
    let shorter = c.args.shorter.now in
    let n = length longer - length shorter in
    let zeros : list_all (λ b. b == 48) (take n longer) ≡ false = ap (list_all (λ b. b == 48)) (sym c.split_at.ensures.front) ∙ sym c.are_zeros.ensures ∙ c.if-are_zeros.false in
    c.if-are_zeros.false ∙ ap (λ b. b && bytes_eq (drop n longer) shorter) (sym zeros) ∙ sym (same_after n longer shorter (omega arith) c.requires.longer c.requires.shorter)
