-- What completion proposes.
use Rattle.std.proofs.Common.{◌≡◌, ℕ, false, not, if◌then◌else◌, List, [], ◌∷◌, ap, ◌∙◌, None}
use Rattle.std.specs.Prelude.{◌&&◌, ◌||◌, find, map}
use Rattle.std.specs.List.{list_any}
use Rattle.mvs_model.specs.Reading.{form_in, is_empty, is_one_of, row_of, rows_of, takes_form}
use Rattle.language_server.specs.Documents.{DocumentValue}
use Rattle.language_server.specs.Hovers.{spot_field}
use Rattle.language_server.specs.Names.{form_word}
use Rattle.language_server.specs.Proposals.{field_by, form_proposal, row_proposals}
use Rattle.language_server.specs.Spans.{touches}
use Rattle.language_server.specs.Subjects.{form_span}
use Rattle.language_server.specs.Syntax.{all_forms}
use Rattle.language_server.specs.declared.subject.Spot.{Spot}

-- nothing is proposed in the operands of a word that is no operation
pub no_operation : (d : DocumentValue) (spot : Spot) (word : List ℕ) → rows_of word ≡ [] → field_by d spot word ≡ []
no_operation d spot word none =
    let forms = form_word (spot_field d spot) ∷ [] in
    let takes : takes_form word ≡ false = ap (λ rows. list_any (λ row. not (is_empty row.forms)) rows) none in
    let row : row_of word forms ≡ None = ap (λ rows. find (λ row. is_empty row.forms || is_one_of row.forms (form_in word forms)) rows) none in
    ap (λ b. if b && touches (form_span (spot_field d spot)) spot.column then map (form_proposal word) (all_forms word) else row_proposals d spot word (row_of word forms)) takes
    ∙ ap (row_proposals d spot word) row
