-- What is asked in its ranges is requested in its ranges.
use Rattle.std.proofs.Common.{◌≡◌, Option, Some, subst, option_map, option_and_then, arith}
use Rattle.std.specs.FinMap.{FinMap}
use Rattle.std.proofs.lemmas.Bool.Decides.{nat_tests}
use Rattle.mvs_laws.proofs.Types.{SourceRequest, Request}
use Rattle.mvs_model.specs.Place.{PlaceValue}
use Rattle.mvs_model.specs.Name.{name_cmp}
use Rattle.mvs_model.specs.Requests.{IsRequest}
use Rattle.mvs_model.specs.Lines.{IsWritten}
use Rattle.mvs_model.specs.Resolving.{resolved}
use Rattle.mvs_model.proofs.Tests.{none_some}

plain_request : (made r : Request) → IsRequest made → Some made ≡ Some r → IsRequest r
plain_request made r in_range e = subst IsRequest (let k : made ≡ r = cc in k) in_range

-- of a value, where there is one
from_map : {A : Type 0} (o : Option A) (f : A → Request) (r : Request) → option_map f o ≡ Some r → ((a : A) → IsRequest (f a)) → IsRequest r
from_map o f r h1 h2 = grind (arith, nat_tests, plain_request, none_some)

from_two : {A B : Type 0} (o : Option A) (p : Option B) (f : A → B → Request) (r : Request) → option_and_then (λ a. option_map (f a) p) o ≡ Some r → ((a : A) (b : B) → IsRequest (f a b)) → IsRequest r
from_two o p f r h1 h2 = grind (arith, nat_tests, from_map, none_some)

pub is_request : (names : FinMap name_cmp PlaceValue) (a : SourceRequest) (r : Request) → IsWritten a → resolved names a ≡ Some r → IsRequest r
is_request names a r h1 h2 = grind (arith, nat_tests, plain_request, from_map, from_two)
