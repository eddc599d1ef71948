-- White space and comments, which stand between tokens: X.680, section 12.6.
use Rattle.std.specs.Prelude.{◌≡◌, ℕ, ◌+◌, ◌<◌, ◌≢◌, List, length, slice_index}
use Rattle.text_lex.specs.Octets.{hyphen_octet, line_feed_octet}

-- two hyphens, which begin a comment and may end one
abbrev pub AreHyphens : List ℕ → ℕ → Type 0
AreHyphens text i = (slice_index text i ≡ hyphen_octet) × (slice_index text (i + 1) ≡ hyphen_octet)

-- what stands from i to k is the rest of a comment, which ends at two hyphens, at the end of the
-- line or at the end of the text
pub data CommentRest (text : List ℕ) : ℕ → ℕ → Type 0 where
  hyphens : {i k : ℕ} → AreHyphens text i → k ≡ i + 2 → CommentRest text i k
  line_end : {i k : ℕ} → slice_index text i ≡ line_feed_octet → k ≡ i → CommentRest text i k
  text_end : {i k : ℕ} → i ≡ length text → k ≡ i → CommentRest text i k
  octet : {i k : ℕ} → i < length text → ¬ AreHyphens text i → slice_index text i ≢ line_feed_octet
      → CommentRest text (i + 1) k → CommentRest text i k
