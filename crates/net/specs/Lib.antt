pub mod Netting
