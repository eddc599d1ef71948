-- Examples: a fault in the second of two documents.
use Rattle.std.proofs.Common.{◌≡◌, ℕ, [], ◌∷◌, refl}
use Rattle.document_parts.specs.ReadDocuments.{IsFirstIn}
use Rattle.document_parts.specs.ReadDocuments.IsFirstIn.{behind, here}

-- of two documents, of which the first is sound, the second has the number 2
second_of_two : IsFirstIn {X = ℕ} (λ n. n ≡ 1) (λ n. n ≡ 0) 1 (1 ∷ 0 ∷ []) 2
second_of_two = behind refl (here refl)
