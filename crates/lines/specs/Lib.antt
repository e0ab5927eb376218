-- The line of a refusal, and how long a line may be.
pub mod Lines
