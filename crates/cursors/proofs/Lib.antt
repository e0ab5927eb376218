-- Why a cursor's test, start and step do as promised.
pub mod Held
pub mod Moving
pub mod Told
