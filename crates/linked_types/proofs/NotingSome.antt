-- NotingSome: what is noted of some texts: of none, of all of a set, and step by step.
use Rattle.std.proofs.Common.{◌≡◌, ◌⊎◌, Option, Some, refl, inl, inr, arith}
use Rattle.filled_syntaxes.specs.NotedTexts.{NotesTexts, TextSet}
use Rattle.filled_syntaxes.specs.NotedTexts.IsNoLater.{same_document}
use Rattle.filled_syntaxes.specs.declared.bad_texts.TextPlace.{TextPlace}
use Rattle.filled_syntaxes.proofs.NotingTexts.{no_later}
use Rattle.linked_types.specs.NotedDefaults.{NotesSome}

pub none_noted : (Texts : TextSet) (before : Option TextPlace) → NotesSome Texts before before
none_noted Texts before = record {
  there = λ x is. inl is;
  kept = λ x is. (x, is, same_document refl (omega arith));
}

pub all_noted : (Texts : TextSet) {before after : Option TextPlace} → NotesTexts Texts before after →
    NotesSome Texts before after
all_noted Texts h = record { there = h.there; kept = h.kept }

pub noted_by : (One Other : TextSet) {before after : Option TextPlace} → ((place : TextPlace) → One place →
    Other place) →
    NotesSome One before after → NotesSome Other before after
noted_by One Other {before = before} to h = record {
  there = λ x is. elim (h.there x is) as (λ _. (before ≡ Some x) ⊎ Other x) [
    | inl here ↦ inl here
    | inr here ↦ inr (to x here)
  ];
  kept = h.kept;
}

pub both_noted : (Texts : TextSet) {before between after : Option TextPlace} → NotesSome Texts before between →
    NotesSome Texts between after → NotesSome Texts before after
both_noted Texts {before = before} p q = record {
  there = λ x is. elim (q.there x is) as (λ _. (before ≡ Some x) ⊎ Texts x) [
    | inl here ↦ p.there x here
    | inr here ↦ inr here
  ];
  kept = λ x is. (let y = p.kept x is in let z = q.kept y.0 y.1 in (z.0, z.1, no_later z.2 y.2));
}
