-- Copies of steps: what private functions cite. Each module names the public definition that it serves.

-- one more record, for `Builds`
pub mod Growing
-- what is missing, for `IsMissing` of `Builds`
pub mod Lacking
