use Rattle.std.proofs.Common.{◌≡◌, ◌<◌, Some, length, arith, refl, sym, ap, subst, ◌∙◌}
use Rattle.std.proofs.lemmas.Result.{err_from_is_err_and}
use Rattle.mvs_model.specs.Reading.{key_of, has, first_of}
use Rattle.job_script.specs.Kinds.{as_kind, fault_in, checks_of}
use Rattle.job_script.specs.Rows.{row_at}
use Rattle.std.specs.Prelude.{find, bytes_eq, option_map}
use Rattle.job_script.specs.Places.{HasKeyword, place_in}
use Rattle.job_script.proofs.Taking.{key_unknown, key_checks, key_again, key_given}
use Rattle.job_script.proofs.given.GivenOperands.take_keyword.Goals as goal

pub returns-in_default : goal.returns-in_default
returns-in_default c = λ operand e key text left given.
    let g = c.args.self.now in
    key_unknown g left operand given e (ap (λ key. find (λ k. bytes_eq k.key key) (row_at g.row).keywords) key ∙ ap (find (λ k. bytes_eq k.key c.args.key.now)) (sym given.table) ∙ c.in_default.ensures)

pub returns-in_err-check : goal.returns-in_err-check
returns-in_err-check c =
    let p = err_from_is_err_and c.from_residual.result c.from_residual.ensures.1 in
    rw (p.1, p.2) (λ operand e key text left given.
    let g = c.args.self.now in
    let kind = as_kind c.in-Some.keyword.now.kind in
    let again = c.is_some.result in
    let place = c.index-place.result in
    let k = subst (λ ks. HasKeyword ks c.args.key.now c.in-Some.keyword.now.key kind) given.table c.in-Some.ensures in
    let here : place_in (key_of operand) ≡ Some place = ap place_in (key ∙ sym k.is) ∙ c.index-place.ensures.index in
    let kind_is : option_map (λ k. k.kind) (find (λ k. bytes_eq k.key (key_of operand)) (row_at g.row).keywords) ≡ Some kind = ap (λ x. option_map (λ k. k.kind) (find (λ k. bytes_eq k.key x) (row_at g.row).keywords)) key ∙ k.kind_is in
    let again_is : has (key_of operand) left ≡ again = key_again g left operand given place here ∙ sym c.is_some.ensures in
    key_checks g left operand given e kind again kind_is again_is ∙ ap (λ t. first_of (checks_of kind again t)) text ∙ sym c.check.ensures ∙ ap fault_in c.in_err-check.was)

pub returns : goal.returns
returns c = λ operand e key text left given.
    let g = c.args.self.now in
    let kind = as_kind c.in-Some.keyword.now.kind in
    let again = c.is_some.result in
    let place = c.index-place.result in
    let k = subst (λ ks. HasKeyword ks c.args.key.now c.in-Some.keyword.now.key kind) given.table c.in-Some.ensures in
    let here : place_in (key_of operand) ≡ Some place = ap place_in (key ∙ sym k.is) ∙ c.index-place.ensures.index in
    let kind_is : option_map (λ k. k.kind) (find (λ k. bytes_eq k.key (key_of operand)) (row_at g.row).keywords) ≡ Some kind = ap (λ x. option_map (λ k. k.kind) (find (λ k. bytes_eq k.key x) (row_at g.row).keywords)) key ∙ k.kind_is in
    let again_is : has (key_of operand) left ≡ again = key_again g left operand given place here ∙ sym c.is_some.ensures in
    let room : place < length g.texts = (let within = c.index-place.ensures.within in let keys = given.keys in omega arith) in
    (key_given g left operand given e place here room c.args.text (sym text) kind again kind_is again_is (ap (λ t. first_of (checks_of kind again t)) text ∙ sym c.check.ensures ∙ ap fault_in c.in_ok-check.was), refl)
