-- CountLines: the lines that `check` prints of documents: how many documents there are, templates of each kind, types
-- and objects at the opening; docs/OPERATING.md, Commands.
use Rattle.std.specs.Prelude.{ℕ, List, ◌++◌, codes}
use Rattle.term_model.specs.LineTexts.{one_word}
use Rattle.template_compile.specs.declared.counts.Counts.{Counts}

abbrev pub class_lines : Counts → List ℕ
class_lines counts = one_word (codes "documents ") counts.documents ++ (one_word (codes "classes ") counts.classes
    ++ one_word (codes "packages ") counts.packages)

abbrev pub member_lines : Counts → List ℕ
member_lines counts = one_word (codes "attributes ") counts.attributes ++ (one_word (codes "groups ") counts.groups
    ++ one_word (codes "bindings ") counts.bindings)

abbrev pub first_lines : Counts → List ℕ
first_lines counts = class_lines counts ++ member_lines counts

abbrev pub event_lines : Counts → List ℕ
event_lines counts = one_word (codes "actions ") counts.actions
    ++ (one_word (codes "notifications ") counts.notifications ++ one_word (codes "parameters ") counts.parameters)

abbrev pub rest_lines : Counts → ℕ → List ℕ
rest_lines counts objects = one_word (codes "behaviours ") counts.behaviours
    ++ (one_word (codes "types ") counts.types ++ one_word (codes "objects ") objects)

abbrev pub last_lines : Counts → ℕ → List ℕ
last_lines counts objects = event_lines counts ++ rest_lines counts objects

abbrev pub count_lines : Counts → ℕ → List ℕ
count_lines counts objects = first_lines counts ++ last_lines counts objects
