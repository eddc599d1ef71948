-- What the parts of an APDU bring, a part at a time: X.229, sections 8 and 9; X.711, section 7.
use Rattle.std.specs.Prelude.{◌≡◌, ℤ, Bool, Option}
use Rattle.std.specs.Option.{option_map, option_map_or}
use Rattle.term_values.specs.Tree.{TreeValue}
use Rattle.term_model.specs.declared.apdu.Apdu.{Apdu}
use Rattle.term_model.specs.declared.request.Request.{Request}
use Rattle.term_model.specs.declared.schema.Set.{Set}
use Rattle.term_model.specs.Arriving.{Arriving}
use Rattle.term_model.specs.Arriving.Arriving.{Cancels, Queued}
use Rattle.term_model.specs.RequestReading.{cancelled_in, request_in}
use Rattle.agent_model.specs.Receiving.{mistyped_apdu, mistyped_argument, of_apdu}
use Rattle.apdu_receiving.specs.declared.received.Received.{Received}
use Rattle.apdu_receiving.specs.Arrivals.{HasSmallClass, HasValidRequest, arriving_of}

-- an answer stands for this, has a class that there is, and a request with a valid filter
abbrev pub Brings : Set → Arriving → Received → Type 0
Brings schema arriving told = (arriving_of told ≡ arriving) × HasSmallClass told × HasValidRequest schema told

-- what the argument of m-Cancel-Get brings, and that of another operation
abbrev pub cancelling : ℤ → TreeValue → Arriving
cancelling id argument =
    option_map_or (λ brought. brought) (option_map (λ cancelled. Cancels id cancelled) (cancelled_in argument))
    (mistyped_argument id)

abbrev pub asking : Set → ℤ → ℤ → TreeValue → Arriving
asking schema id op argument =
    option_map_or (λ brought. brought)
    (option_map (λ (request : Request). Queued (record { id = id; request = request }))
    (request_in schema op argument)) (mistyped_argument id)

-- what an APDU brings, where its fields give one
abbrev pub brought : Set → (ℤ → Bool) → Option Apdu → Arriving
brought schema in_use apdu = option_map_or (of_apdu schema in_use) apdu mistyped_apdu
