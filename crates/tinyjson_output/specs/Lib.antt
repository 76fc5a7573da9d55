-- What public contracts say of a writer.
pub mod Written
-- An indent as its characters.
pub mod Indent
-- What is buffered before it.
pub mod Buffer
