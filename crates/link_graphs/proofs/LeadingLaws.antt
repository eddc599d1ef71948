-- Elements that lead to others by others.
use Rattle.std.proofs.Common.{ℕ, ◌<◌, List, length, sym, inl, inr, subst}
use Rattle.link_graphs.specs.Leading.{LeadsAtOnce, Leads, Reaches}
use Rattle.link_graphs.specs.Leading.Leads.{at_once, onward}

pub leads_on : {lists : List (List ℕ)} {e t u : ℕ} → Leads lists e t → Leads lists t u → Leads lists e u
leads_on d (at_once one) = onward d one
leads_on d (onward f one) = onward (leads_on d f) one

pub leads_reaching : {lists : List (List ℕ)} {e t u : ℕ} → Leads lists e t → Reaches lists t u → Leads lists e u
leads_reaching {lists} {e} d (inl same) = subst (λ x. Leads lists e x) same d
leads_reaching d (inr f) = leads_on d f

pub reaches_on : {lists : List (List ℕ)} {e t u : ℕ} → Reaches lists e t → LeadsAtOnce lists t u → Reaches lists e u
reaches_on {lists} {e} {t} {u} (inl same) one =
    inr (at_once (subst (λ x. LeadsAtOnce lists x u) (sym same) one))
reaches_on (inr d) one = inr (onward d one)

pub target_within : {lists : List (List ℕ)} {e t : ℕ} → Leads lists e t → t < length lists
target_within (at_once one) = one.within
target_within (onward d one) = one.within
