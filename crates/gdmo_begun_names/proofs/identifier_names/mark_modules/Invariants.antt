-- The names of the modules so far are marked.
use Rattle.std.proofs.Common.{take}
use Rattle.gdmo_begun_names.specs.BegunMarks.{Marks}
use Rattle.gdmo_begun_names.specs.StatedNames.{FirstsOfModules}
use Rattle.gdmo_begun_names.proofs.identifier_names.mark_modules.Given as goal

abbrev pub invariant-loop-text : goal.invariant-loop-text
invariant-loop-text l = Marks (FirstsOfModules (take l.text-index l.modules)) l.initial.names l.names
