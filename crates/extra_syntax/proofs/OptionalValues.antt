-- A value that may be missing: its own reader tells, which has its fault at once where none begins.
use Rattle.std.proofs.Common.{◌≡◌, ◌≢◌, ℕ, List, inl, inr, arith}
use Rattle.token_grammar.specs.declared.token.Token.{Token}
use Rattle.token_grammar.specs.Form.{Tree, Maybe, Named, Absent, Present}
use Rattle.token_grammar.specs.Spelling.{At}
use Rattle.token_grammar.specs.Outcome.{IsFault, IsSpelt}
use Rattle.token_grammar.proofs.Heads.{BeginsFirst, SpellsFirst, begins_first, spells_first}
use Rattle.token_grammar.proofs.Sequences.{fault_present, spelt_absent, spelt_on, spelt_present}
use Rattle.asn1_values_syntax.specs.Asn1.{asn1}
use Rattle.asn1_values_syntax.specs.ValueForms.{colon, is_value_start, values}
use Rattle.asn1_values_syntax.proofs.FirstTokens.{firsts, firsts_lead}
use Rattle.extra_syntax.specs.SectionEnds.{is_step_end}
use Rattle.extra_syntax.proofs.Apart.{colon_step, value_step}

pub value_comes : {tokens : List Token} {i k : ℕ} {a : Tree} → IsSpelt tokens asn1 colon (Named values) i a k → IsSpelt
    tokens asn1 is_step_end (Maybe (Named values)) i (Present a) k
value_comes {tokens} {i} {k} {a} one = spelt_present (value_step (begun (spells_first firsts firsts_lead one.spelt)))
    (spelt_on colon_step one)
  where
    begun : SpellsFirst firsts tokens (Named values) i k → At tokens i is_value_start
    begun (inl none) = absurd (let never = none.1 in cc never)
    begun (inr first) = first.1

-- the fault at once
pub value_absent : {tokens : List Token} {i k : ℕ} → k ≡ i → IsFault tokens asn1 colon (Named values) i k → IsSpelt
    tokens asn1 is_step_end (Maybe (Named values)) i Absent i
value_absent {tokens} {i} {k} same one = spelt_absent (record {
  order = omega arith;
  unspelt = λ j a s. colon_step j (one.stops.unspelt j a s);
  furthest = λ j b. let most = one.stops.furthest j b in omega (arith, same, most);
})

-- a later one
pub value_fault : {tokens : List Token} {i k : ℕ} → k ≢ i → IsFault tokens asn1 colon (Named values) i k → IsFault
    tokens asn1 is_step_end (Maybe (Named values)) i k
value_fault {tokens} {i} {k} later one = fault_present (value_step (begun (begins_first firsts firsts_lead one.begun)))
    (record {
      begun = one.begun;
      stops = record {
        order = one.stops.order;
        unspelt = λ j a s. colon_step j (one.stops.unspelt j a s);
        furthest = one.stops.furthest;
      };
    })
  where
    begun : BeginsFirst firsts tokens (Named values) i k → At tokens i is_value_start
    begun (inl same) = absurd (later same)
    begun (inr first) = first
