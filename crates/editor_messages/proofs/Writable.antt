-- The identifiers of messages can be written: a number among them is one.
use Rattle.std.proofs.Common.{◌≡◌, ℕ, Bool, true, false, List, Some, None, sym, subst}
use Rattle.std.specs.Prelude.{Option, IfSome, codes, refl, ⊤}
use Rattle.json.specs.Json.{Json, null, boolean, number, string, array, object}
use Rattle.json.specs.Find.{get}
use Rattle.json.specs.Tree.{HasNumbers}
use Rattle.json.proofs.Numbered.{HasNumbers-get}
use Rattle.editor_messages.specs.Messages.{Meaning, request, notification, response, malformed, identified, called, checked, id_of, is_call, is_response, known_id, meaning_of, or_response, text_of}

-- The identifier of a message can be written.
abbrev pub HasId : Meaning → Type 0
HasId (request id name params) = HasNumbers id
HasId (notification name params) = ⊤
HasId response = ⊤
HasId (malformed id) = HasNumbers id

known : (i : Option Json) → IfSome i HasNumbers → HasNumbers (known_id i)
known None h = tt
known (Some null) h = tt
known (Some (boolean b)) h = tt
known (Some (number s)) h = h
known (Some (string s)) h = tt
known (Some (array js)) h = tt
known (Some (object ms)) h = tt

call_with : (j : Json) (name : List ℕ) (params : Option Json) → HasNumbers j → HasId (identified (id_of j) name params)
call_with null name params h = tt
call_with (boolean b) name params h = tt
call_with (number s) name params h = h
call_with (string s) name params h = tt
call_with (array js) name params h = tt
call_with (object ms) name params h = tt

any : (r c : Bool) (i : Option Json) (name : Option (List ℕ)) (params : Option Json) → IfSome i HasNumbers → HasId (or_response r (checked c i name params))
any true c i name params h = tt
any false false i name params h = known i h
any false true i None params h = known i h
any false true None (Some name) params h = tt
any false true (Some j) (Some name) params h = call_with j name params h

part : (name : List ℕ) (j : Json) → HasNumbers j → (o : Option Json) → o ≡ get name j → IfSome o HasNumbers
part name j h None is = tt
part name j h (Some i) is = HasNumbers-get name j i h is

pub has_id : (j : Json) → HasNumbers j → HasId (meaning_of j)
has_id j h = any (is_response j) (is_call j) (get (codes "id") j) (text_of (get (codes "method") j)) (get (codes "params") j) (part (codes "id") j h (get (codes "id") j) refl)

pub has_id_of : (m : Meaning) (j : Json) → m ≡ meaning_of j → HasNumbers j → HasId m
has_id_of m j is h = subst HasId (sym is) (has_id j h)
