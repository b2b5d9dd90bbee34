-- The word stands behind the text, and before bytes that are 0.
use Rattle.listing.proofs.Additions.{word_fits, word_stored, word_taken}
use Rattle.listing.proofs.text.Text.word.Goals as goal

pub invariant_of-self : goal.invariant_of-self
invariant_of-self c = (
  word_fits _ _ _ c.self.invariant c.self.view_is _ _ c.copy_from_slice.ensures.after c.requires,
  word_stored _ _ _ c.self.invariant c.self.view_is _ _ c.copy_from_slice.ensures.after c.requires,
)

pub returns : goal.returns
returns c = word_taken _ _ _ c.self.invariant c.self.view_is _ _ c.copy_from_slice.ensures.after c.requires
