-- What the program's contracts say of printing.
pub mod Printing
