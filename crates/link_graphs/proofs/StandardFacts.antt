-- Computed examples: a graph in which 0 and 1 lead to each other, 2 leads to 0, 3 to itself, and 4 past the end.
use Rattle.std.proofs.Common.{ℕ, List, [], ◌∷◌, refl, arith}
use Rattle.link_graphs.specs.declared.chains.Link.{Link}
use Rattle.link_graphs.specs.declared.chains.Link.TheVariants.{End, Next, Stop}
use Rattle.link_graphs.specs.Leading.{LeadsAtOnce, Leads}
use Rattle.link_graphs.specs.Leading.Leads.{at_once, onward}
use Rattle.link_graphs.specs.ChainEnds.{EndsAt}
use Rattle.link_graphs.specs.ChainEnds.EndsAt.{itself}

abbrev example : List (List ℕ)
example = (1 ∷ []) ∷ (0 ∷ []) ∷ (0 ∷ []) ∷ (3 ∷ []) ∷ (9 ∷ []) ∷ []

zero_to_one : LeadsAtOnce example 0 1
zero_to_one = record { place = 0; stands = refl; within = omega arith }

one_to_zero : LeadsAtOnce example 1 0
one_to_zero = record { place = 0; stands = refl; within = omega arith }

-- 0 leads back to itself by 1, and 3 at once
zero_leads_back : Leads example 0 0
zero_leads_back = onward (at_once zero_to_one) one_to_zero

three_leads_back : Leads example 3 3
three_leads_back = at_once (record { place = 0; stands = refl; within = omega arith })

-- 2 leads to a cycle
two_leads_to_one : Leads example 2 1
two_leads_to_one = onward (at_once (record { place = 0; stands = refl; within = omega arith })) zero_to_one

-- a chain of two elements ends at the second one
abbrev chain : List Link
chain = Next 1 ∷ End ∷ Next 2 ∷ Stop ∷ []

first_ends : EndsAt chain 0 1
first_ends = EndsAt.onward refl (itself refl)
