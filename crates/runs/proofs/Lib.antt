-- where nothing holds units up, commands keep them free, and behind a drain each went its whole way
pub mod CompleteLemmas
-- what a crash leaves at any moment of a command is sound
pub mod SoundLemmas
-- a command that reads no file makes no call on the files
pub mod DoneLemmas
-- a run goes on by one command, and ends
pub mod RunLemmas
-- a model comes into force at one system after the other
pub mod ReplacingLemmas
