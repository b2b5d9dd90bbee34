-- The laws of the loops that the test programs share: the digest, and the buffer that is prepared.
pub mod DigestLaws
pub mod PreparingLaws
