-- The documents that are open.
use Rattle.std.specs.Prelude.{◌≤◌, ℕ, bytes_eq, length, List, not, Option, option_map}
use Rattle.std.specs.List.{All, filter, find, sum_by}
use Rattle.language_server.specs.Documents.{DocumentValue, IsAnalysed}

-- an open document: its name, and what is known of it
pub record OpenValue : Type 0 where
  pub uri : List ℕ
  pub document : DocumentValue

-- the open documents
pub record SessionValue : Type 0 where
  pub documents : List OpenValue

-- the document of a name
abbrev pub document_of : List ℕ → List OpenValue → Option DocumentValue
document_of uri documents = option_map (λ o. o.document) (find (λ o. bytes_eq o.uri uri) documents)

-- the documents of other names
abbrev pub others_than : List ℕ → List OpenValue → List OpenValue
others_than uri documents = filter (λ o. not (bytes_eq o.uri uri)) documents

-- the bytes of all texts
abbrev pub bytes_open : List OpenValue → ℕ
bytes_open documents = sum_by (λ o. length o.document.text) documents

-- Each document is analysed. There are at most 100, with 8,388,608 bytes.
pub record IsSession (documents : List OpenValue) : Type 0 where
  pub analysed : All (λ o. IsAnalysed o.document.text o.document) documents
  pub count : length documents ≤ 100
  pub bytes : bytes_open documents ≤ 8388608
