-- PlaceLaws: what is found at places that are taken one after the other, and the keys of entries.
use Rattle.std.proofs.Common.{◌≡◌, ◌∙◌, ◌++◌, ◌∷◌, [], ℕ, suc, List, Option, None, Some, ap, arith, refl, sym}
use Rattle.std.specs.Prelude.{All, option_to_list}
use Rattle.std.specs.List.{cons_option, filter_map}
use Rattle.std.specs.Map.{keys_of}
use Rattle.std.proofs.lemmas.List.Elements.{filter_map-append}
use Rattle.joined_statements.specs.declared.joined.Joined.{Joined}

one_found : {X : Type 0} (found : ℕ → Option X) (place : ℕ) (o : Option X) → found place ≡ o →
    filter_map found (place ∷ []) ≡ option_to_list o
one_found found place None is = ap (λ x. cons_option x []) is
one_found found place (Some x) is = ap (λ y. cons_option y []) is

pub found_pushed : {X : Type 0} (found : ℕ → Option X) (places : List ℕ) (place : ℕ) (before after : List X) →
    before ≡ filter_map found places → after ≡ before ++ option_to_list (found place) →
    after ≡ filter_map found (places ++ place ∷ [])
found_pushed found places place before after so_far pushed =
    pushed ∙ ap (λ xs. xs ++ option_to_list (found place)) so_far
    ∙ ap (λ xs. filter_map found places ++ xs) (sym (one_found found place (found place) refl))
    ∙ sym (filter_map-append found places (place ∷ []))

-- what holds of each key holds of that of an entry
pub key_within : (P : ℕ → Type 0) (done rest : List (ℕ × Joined)) (a : ℕ) (joined : Joined) →
    All P (keys_of (done ++ (a, joined) ∷ rest)) → P a
key_within P [] rest a joined all = all 0 a (omega arith)
key_within P (entry ∷ done) rest a joined all =
    key_within P done rest a joined (λ k d less. all (suc k) d (omega arith))
