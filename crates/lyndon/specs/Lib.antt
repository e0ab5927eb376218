-- Words of letters below k, as the code asks for them.
pub mod Letters
