-- Copies of steps: what private functions cite. Each module names the public definition that it serves.

-- one walk over a forest, for `removed`, `reduced`, `converted` and `released`
pub mod Walked
