-- what a file says as a model, and why it says none
pub mod ModelFile
-- the words of an end
pub mod Words
