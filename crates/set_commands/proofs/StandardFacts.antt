-- StandardFacts: the lines of `check` for documents with one class of two attributes and its root: docs/PROFILE.md,
-- section 2.
use Rattle.std.proofs.Common.{◌≡◌, refl}
use Rattle.std.specs.Prelude.{codes, ◌++◌}
use Rattle.std.specs.Fmt.{digits}
use Rattle.template_compile.specs.declared.counts.Counts.{Counts}
use Rattle.set_commands.specs.CountLines.{count_lines}

abbrev the_counts : Counts
the_counts = record {
  documents = 1;
  classes = 1;
  packages = 1;
  attributes = 2;
  groups = 0;
  bindings = 0;
  actions = 0;
  notifications = 0;
  parameters = 0;
  behaviours = 0;
  types = 1;
}

the_lines : count_lines the_counts 1 ≡ codes "documents 1\nclasses 1\npackages 1\nattributes 2\ngroups 0\nbindings 0\nactions 0\nnotifications 0\nparameters 0\nbehaviours 0\ntypes 1\nobjects 1\n"
unfolding digits
the_lines = refl
