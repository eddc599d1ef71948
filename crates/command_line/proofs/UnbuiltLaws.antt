-- UnbuiltLaws: words of commands that aren't built.
use Rattle.std.proofs.Common.{rules, ◌≡◌, ◌↔◌, ℕ, List, [], ◌∷◌, IsTrue, Bool, true, false, drop, get_or, ◌==◌, refl, sym, ap, ◌∙◌}
use Rattle.std.specs.Prelude.{codes}
use Rattle.std.proofs.Math.Path.{subst}
use Rattle.command_line.specs.WordForms.{AreInNoForm, AreUnbuilt, AreWordsOf, Command, HasLoadWords, HasPlaceAndNames}
use Rattle.command_line.specs.WordForms.{HasServeWords}
use Rattle.command_line.specs.WordForms.Begins.{begun}
use Rattle.command_line.specs.WordForms.Command.{Check, Report, Run, Replay, Serve, Load}
use Rattle.command_line.specs.WordForms.IsUnbuilt.{replay, serve, load}

tails : {word other : List ℕ} {rest others : List (List ℕ)} → word ∷ rest ≡ other ∷ others → rest ≡ others
tails same = ap (λ ws. drop 1 ws) same

-- two words that differ at a place
pub other_word : {word other : List ℕ} {rest others : List (List ℕ)} (k : ℕ) → word ∷ rest ≡ other ∷ others →
    (get_or word k 0 == get_or other k 0) ≡ false → ⊥
other_word {word} {other} k same differ = absurd_of (sym (eqb_same (ap (λ ws. get_or (get_or ws 0 []) k 0) same))
    ∙ differ)
  where
    eqb_same : {a b : ℕ} → a ≡ b → (a == b) ≡ true
    eqb_same {a} {b} e = subst (λ n. (a == n) ≡ true) e (search rules)

    absurd_of : true ≡ false → ⊥
    absurd_of e = absurd (cc)

-- words of which a test isn't true are in no form that it tells
pub in_no_form : (words : List (List ℕ)) (Form : Type 0) (answer : Bool) → IsTrue answer ↔ Form → answer ≡ false →
    ((command : Command) → AreWordsOf words command → Form) → AreInNoForm words
in_no_form words Form answer told untrue only command are =
    absurd_of (sym (told.1 (only command are)) ∙ untrue)
  where
    absurd_of : true ≡ false → ⊥
    absurd_of e = absurd (cc)

pub replay_unbuilt : (rest : List (List ℕ)) → HasPlaceAndNames rest → AreUnbuilt (codes "replay" ∷ rest)
replay_unbuilt [] all = elim all [ ]
replay_unbuilt (journal ∷ names) (begun place are_names) = record {
  command = Replay journal names;
  are = (refl, record { place = place; are_names = are_names });
  unbuilt = replay;
}

pub replay_only : (rest : List (List ℕ)) (command : Command) → AreWordsOf (codes "replay" ∷ rest) command →
    HasPlaceAndNames rest
replay_only rest (Replay journal names) are = subst (λ ws. HasPlaceAndNames ws) (sym (tails are.0))
    (begun are.1.place are.1.are_names)
replay_only rest (Check names) are = absurd (other_word 0 are.0 refl)
replay_only rest (Report names) are = absurd (other_word 3 are.0 refl)
replay_only rest (Run script names) are = absurd (other_word 1 are.0 refl)
replay_only rest (Serve address sessions workers names) are = absurd (other_word 0 are.0 refl)
replay_only rest (Load seed count) are = absurd (other_word 0 are.0 refl)

pub serve_unbuilt : (rest : List (List ℕ)) → HasServeWords rest → AreUnbuilt (codes "serve" ∷ rest)
serve_unbuilt [] all = elim all [ ]
serve_unbuilt (address ∷ []) (begun place rest) = elim rest [ ]
serve_unbuilt (address ∷ (sessions ∷ [])) (begun place (begun many_sessions rest)) = elim rest [ ]
serve_unbuilt (address ∷ (sessions ∷ (workers ∷ names)))
    (begun place (begun many_sessions (begun many_workers are_names))) = record {
      command = Serve address sessions workers names;
      are = (refl, (record { place = place; are_names = are_names }, many_sessions, many_workers));
      unbuilt = serve;
    }

pub serve_only : (rest : List (List ℕ)) (command : Command) → AreWordsOf (codes "serve" ∷ rest) command →
    HasServeWords rest
serve_only rest (Serve address sessions workers names) are = subst (λ ws. HasServeWords ws) (sym (tails are.0))
    (begun are.1.0.place (begun are.1.1 (begun are.1.2 are.1.0.are_names)))
serve_only rest (Check names) are = absurd (other_word 0 are.0 refl)
serve_only rest (Report names) are = absurd (other_word 0 are.0 refl)
serve_only rest (Run script names) are = absurd (other_word 0 are.0 refl)
serve_only rest (Replay journal names) are = absurd (other_word 0 are.0 refl)
serve_only rest (Load seed count) are = absurd (other_word 0 are.0 refl)

pub load_unbuilt : (rest : List (List ℕ)) → HasLoadWords rest → AreUnbuilt (codes "load" ∷ rest)
load_unbuilt [] all = elim all [ ]
load_unbuilt (seed ∷ []) (begun is_seed rest) = elim rest [ ]
load_unbuilt (seed ∷ (count ∷ [])) (begun is_seed (begun is_count alone)) = record {
  command = Load seed count;
  are = (refl, (is_seed, is_count));
  unbuilt = load;
}
load_unbuilt (seed ∷ (count ∷ (more ∷ others))) (begun is_seed (begun is_count alone)) = absurd (cc)

pub load_only : (rest : List (List ℕ)) (command : Command) → AreWordsOf (codes "load" ∷ rest) command →
    HasLoadWords rest
load_only rest (Load seed count) are = subst (λ ws. HasLoadWords ws) (sym (tails are.0))
    (begun are.1.0 (begun are.1.1 refl))
load_only rest (Check names) are = absurd (other_word 0 are.0 refl)
load_only rest (Report names) are = absurd (other_word 0 are.0 refl)
load_only rest (Run script names) are = absurd (other_word 0 are.0 refl)
load_only rest (Replay journal names) are = absurd (other_word 0 are.0 refl)
load_only rest (Serve address sessions workers names) are = absurd (other_word 0 are.0 refl)
