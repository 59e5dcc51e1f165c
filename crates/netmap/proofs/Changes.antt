-- What the questions of opening, reading and putting show where all are answered yes.
use Rattle.std.proofs.lemmas.Grind.{common_steps}
use Rattle.std.proofs.Common.{◌≡◌, ℕ, ◌≤◌, None, arith}
use Rattle.netmap.specs.declared.link.Link.{Link}
use Rattle.questions.specs.Asking.{first_no}
use Rattle.netmap.specs.Changes.{link_questions}
use Rattle.netmap.specs.Net.{SoundLink}

pub record InLimits (n m : ℕ) : Type 0 where
  pub low : 1 ≤ n
  pub high : n ≤ 64
  pub few : m ≤ 256

-- a weight comes from 16 bits, so no question asks for its upper limit
pub link_passes : (n : ℕ) (l : Link) (p : ℕ) → first_no (link_questions n l p) ≡ None → l.weight ≤ 65535 → SoundLink n l
link_passes n l p e high = grind (arith, common_steps)

pub link_granted : (n : ℕ) (l : Link) (p : ℕ) → SoundLink n l → first_no (link_questions n l p) ≡ None
link_granted n l p s = grind (arith, common_steps)
