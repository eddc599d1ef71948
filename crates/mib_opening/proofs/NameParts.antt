-- The parts of a record's name: the log's, and the last one.
use Rattle.std.proofs.Common.{◌≡◌, ◌&&◌, List, [], ◌∷◌, ◌++◌, refl, ap, ◌∙◌}
use Rattle.term_model.specs.declared.name.Rdn.{Rdn}
use Rattle.term_model.specs.declared.schema.Set.{Set}
use Rattle.term_model.specs.Comparing.{is_same_name}
use Rattle.term_model.specs.Creating.{last_of, superior_of}
use Rattle.term_model.specs.LogRecords.{is_record_name, is_record_part}

pub superior_front : (front : List Rdn) (last : Rdn) → superior_of (front ++ last ∷ []) ≡ front
superior_front [] last = refl
superior_front (first ∷ []) last = refl
superior_front (first ∷ second ∷ rest) last = ap (λ parts. first ∷ parts) (superior_front (second ∷ rest) last)

pub last_back : (first : Rdn) (front : List Rdn) (last : Rdn) → last_of first (front ++ last ∷ []) ≡ last
last_back first [] last = refl
last_back first (second ∷ rest) last = last_back second rest last

pub record_name : (schema : Set) (log front : List Rdn) (last : Rdn)
    → is_record_name schema log (front ++ last ∷ []) ≡ (is_same_name front log && is_record_part schema last)
record_name schema log [] last = refl
record_name schema log (first ∷ rest) last =
    ap (λ name. is_same_name name log && is_record_part schema (last_of first (rest ++ last ∷ [])))
    (superior_front (first ∷ rest) last)
    ∙ ap (λ part. is_same_name (first ∷ rest) log && is_record_part schema part) (last_back first rest last)
