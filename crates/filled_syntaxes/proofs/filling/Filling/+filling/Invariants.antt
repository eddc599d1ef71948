-- The components so far are filled, and their texts that denote no value are noted.
use Rattle.std.proofs.Common.{◌≡◌, List, length, take}
use Rattle.term_values.specs.PartsView.{parts_listed}
use Rattle.asn1_names.specs.ModuleTerms.{ModuleTerm}
use Rattle.asn1_names.specs.NameMeaning.{Meaning}
use Rattle.linked_parts.specs.declared.linked.Linked.{Linked}
use Rattle.filled_syntaxes.specs.BadDefaults.{StandWhere, among_may_miss}
use Rattle.filled_syntaxes.specs.KnownThings.{IsFilling}
use Rattle.filled_syntaxes.specs.LinkedMeanings.{linked_arcs}
use Rattle.filled_syntaxes.specs.NotedTexts.{EachText, NotesTexts}
use Rattle.filled_syntaxes.proofs.BadLaws.{AllFilled, OneAmong}
use Rattle.filled_syntaxes.proofs.filling.Filling.+filling.Given as goal

abbrev pub invariant-fill_parts-loop-place : goal.invariant-fill_parts-loop-place
invariant-fill_parts-loop-place l = record {
  many : length l.items.items ≡ l.place;
  kept : l.path.items ≡ l.initial.path.items;
  filled : (ms : List ModuleTerm) (linked : Linked) (meant : Meaning) →
      IsFilling ms linked meant l.self.things.now l.self.meaning →
      StandWhere ms meant l.initial.path.items (among_may_miss (parts_listed l.own)) →
      AllFilled ms (linked_arcs linked) meant l.initial.path.items 0 (take l.place l.own) l.items.items;
  noted : (ms : List ModuleTerm) (linked : Linked) (meant : Meaning) →
      IsFilling ms linked meant l.self.things.now l.self.meaning →
      StandWhere ms meant l.initial.path.items (among_may_miss (parts_listed l.own)) →
      NotesTexts (EachText (OneAmong ms (linked_arcs linked) meant l.initial.path.items) l.items.items)
      l.initial.bad.first l.bad.first;
}
