-- what public contracts say
pub mod Tree
pub mod Kind
pub mod Soundness
pub mod Characters
pub mod Syntax
pub mod Grammar
pub mod Prefix
pub mod Position
pub mod Refusal
pub mod Message
pub mod Text
-- what private contracts and proofs alone say
pub mod Machine
