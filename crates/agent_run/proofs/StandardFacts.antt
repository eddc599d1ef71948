-- StandardFacts: examples of lines, computed: README.md, Answers.
use Rattle.std.proofs.Common.{◌≡◌, refl}
use Rattle.std.specs.Prelude.{codes}
use Rattle.std.specs.Fmt.{digits}
use Rattle.template_compile.specs.declared.refusal.Kind.TheVariants.{OpenString}
use Rattle.agent_run.specs.declared.refusal.Unbuilt.TheVariants.{Script}
use Rattle.agent_run.specs.Refusing.{bad_document_line, bad_instance_line, file_line, journal_full_line, not_built_line}
use Rattle.agent_run.specs.Refusing.{too_large_line, two_numbers, usage_line}

the_line_of_words_in_no_form : usage_line ≡ codes "usage\n"
the_line_of_words_in_no_form = refl

the_line_of_an_open_string : bad_document_line 1 2 OpenString ≡ codes "bad document 1 2 OpenString\n"
unfolding digits two_numbers
the_line_of_an_open_string = refl

the_line_of_an_instance : bad_instance_line 3 11 ≡ codes "bad instance 3 11\n"
unfolding digits two_numbers
the_line_of_an_instance = refl

the_line_of_a_script : not_built_line Script ≡ codes "not built script\n"
the_line_of_a_script = refl

the_line_of_a_full_journal : journal_full_line ≡ codes "journal full\n"
the_line_of_a_full_journal = refl

the_line_of_a_file : file_line (codes "nowhere") ≡ codes "file nowhere\n"
the_line_of_a_file = refl

the_line_of_a_large_file : too_large_line (codes "script") ≡ codes "too large script\n"
the_line_of_a_large_file = refl
