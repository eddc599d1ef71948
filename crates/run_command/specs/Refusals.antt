-- Refusals: the refusals of a run for those of compiling and of opening; docs/PROFILE.md, sections 2 and 16.
use Rattle.mib_opening.specs.declared.refusal.OpeningRefusal.{OpeningRefusal}
use Rattle.mib_opening.specs.declared.refusal.OpeningRefusal.TheVariants as O
use Rattle.template_compile.specs.declared.refusal.CompileRefusal.{CompileRefusal}
use Rattle.template_compile.specs.declared.refusal.CompileRefusal.TheVariants as C
use Rattle.run_command.specs.declared.refusal.RunRefusal.{RunRefusal}
use Rattle.run_command.specs.declared.refusal.RunRefusal.TheVariants.{BadDocument, BadInstance, Memory}

abbrev pub compiling_refusal : CompileRefusal → RunRefusal
compiling_refusal (C.BadDocument document line kind) = BadDocument document line kind
compiling_refusal C.Memory = Memory

abbrev pub opening_refusal : OpeningRefusal → RunRefusal
opening_refusal (O.BadInstance index error) = BadInstance index error
opening_refusal O.Memory = Memory
