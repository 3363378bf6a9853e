-- The numbers of a set, one by one.
use Rattle.std.proofs.Common.{◌≡◌, ◌∙◌, ℕ, suc, ◌-◌, Bool, true, false, List, ◌∷◌, ◌++◌, append-nil, ap, sym, decimal, if◌then◌else◌}
use Rattle.mvs_model.specs.Gifts.{has_bit}
use Rattle.mvs_c.specs.Statements.{numbers_text}

-- no number is left
pub no_number : (old : List ℕ) (set before count : ℕ) → count ≡ 0 → old ≡ old ++ numbers_text set before count
unfolding numbers_text
no_number old set before count none = sym (append-nil old) ∙ (λ i. old ++ numbers_text set before (sym none i))

-- one that the set does not have
pub passed : (set before count number rest : ℕ) → count ≡ suc rest → number ≡ 127 - rest → has_bit set number ≡ false → numbers_text set before count ≡ numbers_text set before rest
unfolding numbers_text
passed set before count number rest e n bit =
    (λ i. numbers_text set before (e i))
    ∙ ap (λ (b : Bool). if b then before ∷ decimal (127 - rest) ++ numbers_text set 44 rest else numbers_text set before rest) (ap (has_bit set) (sym n) ∙ bit)

-- one that the set has
pub taken : (set before count number rest : ℕ) → count ≡ suc rest → number ≡ 127 - rest → has_bit set number ≡ true → numbers_text set before count ≡ before ∷ decimal number ++ numbers_text set 44 rest
unfolding numbers_text
taken set before count number rest e n bit =
    (λ i. numbers_text set before (e i))
    ∙ ap (λ (b : Bool). if b then before ∷ decimal (127 - rest) ++ numbers_text set 44 rest else numbers_text set before rest) (ap (has_bit set) (sym n) ∙ bit)
    ∙ (λ i. before ∷ decimal (sym n i) ++ numbers_text set 44 rest)
