-- What the steps to the next Lyndon word and to the one before ask and answer.
pub mod Steps
