use Rattle.template_compile.proofs.compiling.compile.Goals as goal

pub returns-clause-accepted : goal.returns-clause-accepted
returns-clause-accepted c = (c.in_ok-compiled.ensures.compiled.parts, c.in_ok-compiled.ensures.compiled.accepted)
