-- what one command of a script does
pub mod Does
-- a model that comes into force at all systems
pub mod Remodels
-- what is printed of a run
pub mod Text
-- its turns
pub mod Turns
-- a run in which nothing holds units up
pub mod Complete
-- what a run put into its sink
pub mod Put
-- a run of a script, and why it ends
pub mod Run
-- what only private functions cite
pub mod steps
