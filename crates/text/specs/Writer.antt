-- What a writer's step does. Cited by every function that writes.
use Rattle.std.specs.Prelude.{ℕ, List, ◌≡◌}
use Rattle.text.specs.Text.{text_of, written_of}
use Rattle.text.specs.declared.Text.{Text}

-- the characters s more, into the same lent bytes
pub record Adds (s : List ℕ) (old new : Text) : Type 0 where
  pub same : new.out.ghost_name ≡ old.out.ghost_name
  pub text : text_of new.out.now new.at ≡ written_of s (text_of old.out.now old.at)
