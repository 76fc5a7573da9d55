-- What a call answers that stops.
pub mod Stopping
-- Equal normal texts.
pub mod Equal
-- One line more.
pub mod Growing
-- What a query selects in a text.
pub mod Selecting
-- What a query selects in texts that are lines.
pub mod SelectingLines
-- What a check by a schema answers.
pub mod Judging
-- What a check of lines by a schema answers.
pub mod JudgingLines
