-- What an operation on one object answers, as a linked reply: X.711, section 7.5, type LinkedReplyArgument; and how
-- many octets replies have, by which operations are limited: docs/PROFILE.md, section 17.
use Rattle.std.specs.Prelude.{ℕ, pos, ◌-◌, List, [], ◌∷◌, true, drop, length, map, nat_lt, sum}
use Rattle.std.specs.Prelude.{if◌then◌else◌}
use Rattle.std.specs.Option.{option_map_or}
use Rattle.std.specs.Ordering.{int_eq}
use Rattle.term_values.specs.Der.{encoded}
use Rattle.term_values.specs.Tag.{context}
use Rattle.term_model.specs.declared.reply.CmisError.{CmisError}
use Rattle.term_model.specs.declared.reply.Reply.{Reply}
use Rattle.term_model.specs.declared.reply.Reply.TheVariants as reply

-- The contents octets of an encoding whose identifier is one octet and whose length is definite: X.690, section 8.1.3.
-- A length below 128 is one octet; else the first octet says how many octets behind it tell the length.
abbrev pub behind_length : List ℕ → List ℕ
behind_length [] = []
behind_length (first ∷ others) = if nat_lt first 128 then others else drop (first - 128) others

abbrev pub contents_in : List ℕ → List ℕ
contents_in [] = []
contents_in (identifier ∷ others) = behind_length others

abbrev pub parameter_octets : CmisError → List ℕ
parameter_octets error = option_map_or (λ octets. octets) error.parameter []

-- the errors of an operation on one object as linked replies: getListError is [1], setListError [3] and
-- processingFailure [5], each with what the error's parameter holds
abbrev pub linked_error : CmisError → Reply
linked_error error =
    if int_eq error.code (pos 7) then reply.Linked 1 (contents_in (parameter_octets error))
    else (if int_eq error.code (pos 8) then reply.Linked 3 (contents_in (parameter_octets error))
    else (if int_eq error.code (pos 10) then reply.Linked 5 (contents_in (parameter_octets error))
    else reply.Error error))

-- a result is linked under the number that the operation's results have: getResult [0], setResult [2]
abbrev pub linked_reply : ℕ → Reply → Reply
linked_reply number (reply.Single octets) = reply.Linked number (contents_in octets)
linked_reply number (reply.Error error) = linked_error error
linked_reply number other = other

-- the octets of a result, of a linked reply's argument, of an error's parameter
abbrev pub reply_size : Reply → ℕ
reply_size (reply.Single octets) = length octets
reply_size (reply.Linked number contents) = length (encoded true (context number) contents)
reply_size reply.Empty = 0
reply_size (reply.Error error) = length (parameter_octets error)

abbrev pub replies_size : List Reply → ℕ
replies_size replies = sum (map reply_size replies)
