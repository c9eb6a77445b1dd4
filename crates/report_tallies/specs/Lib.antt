pub mod Groups
pub mod Header
pub mod Origins
