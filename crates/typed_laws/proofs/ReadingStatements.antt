-- The laws of specs/ReadingLaws, proved.
use Rattle.std.proofs.Common.{◌≡◌, Option, Some, None, sym, ap, ◌∙◌, refl}
use Rattle.std.proofs.lemmas.Option.{none-some}
use Rattle.term_values.specs.Decoding.{value_in}
use Rattle.term_values.specs.Denotes.{Denotes}
use Rattle.term_values.specs.Syntaxes.{TypeSyntax}
use Rattle.term_values.specs.Tree.{TreeValue}
use Rattle.term_values.specs.Typed.{TypedValue}
use Rattle.typed_laws.specs.ReadingLaws.{ReadingDenotes, DenotedIsRead, ReadingIsExact, NoneIsDenoted, SpeltHasOctets}
use Rattle.typed_laws.specs.TreeOctets.{HasOctets}
use Rattle.typed_laws.proofs.DenotesFound.{found}
use Rattle.typed_laws.proofs.DenotesTold.{told}
use Rattle.typed_laws.proofs.SpeltOctets.{spelt_octets}

pub reading_denotes_holds : ReadingDenotes
reading_denotes_holds syntax tree value h e = told syntax None tree value tt h e

pub denoted_is_read_holds : DenotedIsRead
denoted_is_read_holds syntax tree value c d = let f = found syntax None tree value c d in (f.read, f.found)

pub reading_is_exact_holds : ReadingIsExact
reading_is_exact_holds syntax tree value c h d =
    let f = found syntax None tree value c d in
    f.found ∙ ap Some (f.same h)

none_told : (syntax : TypeSyntax) (tree : TreeValue) → HasOctets tree → (o : Option TypedValue)
    → value_in syntax tree ≡ o → ((value : TypedValue) → ¬ (Denotes syntax tree value)) → o ≡ None
none_told syntax tree h None e never = refl
none_told syntax tree h (Some v) e never = absurd (never v (told syntax None tree v tt h e))

pub none_is_denoted_holds : NoneIsDenoted
none_is_denoted_holds syntax tree c h = (
  λ e value d. let f = found syntax None tree value c d in none-some f.read (sym e ∙ f.found),
  λ never. none_told syntax tree h (value_in syntax tree) refl never,
)

pub spelt_has_octets_holds : SpeltHasOctets
spelt_has_octets_holds depth bytes tree h s = spelt_octets depth bytes tree h s
