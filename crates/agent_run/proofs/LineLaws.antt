-- LineLaws: what is written in two parts.
use Rattle.std.proofs.Common.{◌≡◌, ◌++◌, ℕ, List, ap, ◌∙◌}
use Rattle.std.proofs.lemmas.List.{append_assoc}

pub two_behind : (old one other new between : List ℕ) → between ≡ old ++ one → new ≡ between ++ other →
    new ≡ old ++ (one ++ other)
two_behind old one other new between first second = second ∙ (ap (λ xs. xs ++ other) first ∙ append_assoc old one other)
