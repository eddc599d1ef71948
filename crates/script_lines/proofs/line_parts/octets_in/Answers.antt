use Rattle.std.proofs.Common.{◌≡◌, ℕ, ◌<◌, ◌≤◌, List, length, Ok, sym, ap, ◌∙◌, subst, rules}
use Rattle.hex.specs.Hex.{decode_of, encode_upper}
use Rattle.hex.proofs.HexLemmas.{decode_of-encode_upper, decode_of-ok, decode_of-same}
use Rattle.script_lines.specs.ScriptText.{most_octets}
use Rattle.script_lines.proofs.line_parts.octets_in.Goals as goal

pub returns-then-branch : goal.returns-then-branch
returns-then-branch c =
    let items = c.in-Some.items.items in
    let read : decode_of c.args.digits.now ≡ Ok items = search rules in
    let told = subst (λ l. (c.args.digits.now ≡ encode_upper l) × (0 < length l) × (length l ≤ most_octets))
    c.as_slice.ensures.value (c.in_ok-are_spelt-in-Some.ensures.0 c.if-branch.true) in (
      told.0,
      record { octets_all = (decode_of-ok c.args.digits.now items read).3; some = told.1; few = told.2 },
    )

pub returns-else-branch : goal.returns-else-branch
returns-else-branch c =
    λ octets held e.
    let items = c.in-Some.items.items in
    let read : decode_of c.args.digits.now ≡ Ok items = search rules in
    let same = decode_of-same c.args.digits.now octets items
    (ap decode_of e ∙ decode_of-encode_upper octets held.octets_all) read in
    let told = subst (λ l. (c.args.digits.now ≡ encode_upper l) × (0 < length l) × (length l ≤ most_octets))
    (same ∙ sym c.as_slice.ensures.value) (e, held.some, held.few) in
    cc (c.in_ok-are_spelt-in-Some.ensures.1 told, c.if-branch.false)

pub returns-in-None : goal.returns-in-None
returns-in-None c =
    λ octets held e.
    let none' : (octets : List ℕ) → decode_of c.args.digits.now ≡ Ok octets → ⊥ = search rules in
    none' octets (ap decode_of e ∙ decode_of-encode_upper octets held.octets_all)
