-- The table of path counts and the sizes of CS, as the code promises them.
pub mod Tables
